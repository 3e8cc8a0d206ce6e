use Rattle.std.proofs.Common.{true, length}
use Rattle.ps_lex.specs.Passing.{AreInLine}
use Rattle.ps_lex.proofs.gap.behind_comment.Given as goal

abbrev pub invariant-loop-left : goal.invariant-loop-left
invariant-loop-left l = AreInLine true l.bytes l.left

abbrev pub decreases-loop-left : goal.decreases-loop-left
decreases-loop-left l = length l.left
