use Rattle.std.proofs.Common.{◌≡◌, drop}
use Rattle.ps_pb.specs.Weights.{are_rising}
use Rattle.ps_pb.proofs.constraint.are_rising.Given as goal

abbrev pub invariant-loop-term : goal.invariant-loop-term
invariant-loop-term l = are_rising 0 l.terms ≡ are_rising l.above (drop l.term-index l.terms)
