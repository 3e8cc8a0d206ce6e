use Rattle.ps_sat.specs.Choices.{AtomsTo}
use Rattle.ps_sat.proofs.order.first_open.Given as goal

abbrev pub invariant-loop-place : goal.invariant-loop-place
invariant-loop-place l = AtomsTo l.base l.a l.place
