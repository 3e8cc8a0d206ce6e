use Rattle.std.proofs.Common.{false, length}
use Rattle.ps_lex.specs.Passing.{AreInLine}
use Rattle.ps_lex.proofs.gap.behind_spaces.Given as goal

abbrev pub invariant-loop-left : goal.invariant-loop-left
invariant-loop-left l = AreInLine false l.bytes l.left

abbrev pub decreases-loop-left : goal.decreases-loop-left
decreases-loop-left l = length l.left
