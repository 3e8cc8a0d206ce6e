use Rattle.std.proofs.Common.{◌≡◌, drop}
use Rattle.ps_pb.specs.Constraints.{some_forced}
use Rattle.ps_pb.specs.Weights.{terms_of}
use Rattle.ps_pb.proofs.propagation.some_forced.Given as goal

abbrev pub invariant-loop-term : goal.invariant-loop-term
invariant-loop-term l = some_forced l.slack l.a (terms_of l.terms) ≡ some_forced l.slack l.a (terms_of (drop l.term-index l.terms))
