use Rattle.ps_sat.proofs.Slacks.{AreFilledTo}
use Rattle.ps_sat.proofs.sight.coefficients_of.Given as goal

abbrev pub invariant-loop-term : goal.invariant-loop-term
invariant-loop-term l = AreFilledTo l.variables l.term-items l.term-index l.coefficients.items
