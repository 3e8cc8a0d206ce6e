use Rattle.std.proofs.Common.{◌≡◌}
use Rattle.ps_pb.specs.Weights.{weighted, terms_below}
use Rattle.ps_pb.specs.Coefficients.{number_at}
use Rattle.ps_pb.proofs.weights.terms_of_coefficients.Given as goal

abbrev pub invariant-loop-place : goal.invariant-loop-place
invariant-loop-place l = l.terms ≡ weighted (terms_below l.place (number_at l.sums))
