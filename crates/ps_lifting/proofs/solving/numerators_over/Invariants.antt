use Rattle.ps_lifting.specs.Systems.{AreSmall}
use Rattle.ps_lifting.proofs.solving.numerators_over.Given as goal

abbrev pub invariant-loop-x : goal.invariant-loop-x
invariant-loop-x l = AreSmall l.found
