use Rattle.ps_learn.proofs.Before.{NoneIsMarkedFrom}
use Rattle.ps_learn.proofs.explaining.is_marked_before.Given as goal

abbrev pub invariant-down : goal.invariant-down
invariant-down l = NoneIsMarkedFrom l.level l.entries l.marks l.j l.i

abbrev pub decreases-down : goal.decreases-down
decreases-down l = l.j
