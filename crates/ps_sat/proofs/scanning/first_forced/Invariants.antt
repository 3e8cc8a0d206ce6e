use Rattle.std.proofs.Common.{◌≡◌, drop}
use Rattle.ps_pb.specs.Constraints.{some_forced}
use Rattle.ps_pb.specs.Weights.{terms_of}
use Rattle.ps_sat.proofs.scanning.first_forced.Given as goal

abbrev pub invariant-loop-term : goal.invariant-loop-term
invariant-loop-term l = some_forced l.room l.a (terms_of l.term-items) ≡ some_forced l.room l.a (terms_of (drop l.term-index l.term-items))
