use Rattle.std.specs.Prelude.{IfSome}
use Rattle.ps_pb.specs.Assignments.{place}
use Rattle.ps_sat.specs.Choices.{IsOpenAt}
use Rattle.ps_sat.proofs.order.Order.most_active.Given as goal

abbrev pub invariant-loop-atom : goal.invariant-loop-atom
invariant-loop-atom l = IfSome l.best (λ x. IsOpenAt l.base l.a (place x))
