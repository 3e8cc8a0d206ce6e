use Rattle.std.proofs.Common.{◌≡◌, length}
use Rattle.ps_read.specs.Pending.{reduced, HaveAll}
use Rattle.ps_read.specs.Kept.{pending_of}
use Rattle.ps_read.proofs.formula_parser.FormulaParser.reduce.Given as goal

abbrev pub invariant-loop-last : goal.invariant-loop-last
invariant-loop-last l = (reduced l.level (pending_of l.self) ≡ reduced l.level (pending_of l.initial.self)) × HaveAll (pending_of l.self)

abbrev pub decreases-loop-last : goal.decreases-loop-last
decreases-loop-last l = length l.self.operators
