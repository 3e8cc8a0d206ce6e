use Rattle.std.proofs.Common.{◌≡◌, drop}
use Rattle.ps_pb.specs.Constraints.{with_forced}
use Rattle.ps_pb.specs.Weights.{terms_of}
use Rattle.ps_pb.proofs.propagation.set_forced.Given as goal

abbrev pub invariant-loop-term : goal.invariant-loop-term
invariant-loop-term l = with_forced l.slack (terms_of l.terms) l.initial.a ≡ with_forced l.slack (terms_of (drop l.term-index l.terms)) l.a
