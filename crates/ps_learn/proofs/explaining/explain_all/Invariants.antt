use Rattle.ps_pb.specs.Steps.{known_of}
use Rattle.ps_learn.proofs.Going.{Going}
use Rattle.ps_learn.proofs.explaining.explain_all.Given as goal

abbrev pub invariant-back : goal.invariant-back
invariant-back l = Going l.trail.variables (known_of l.known) l.trail.entries l.initial.marks l.i l.before l.marks l.kept

abbrev pub decreases-back : goal.decreases-back
decreases-back l = l.i
