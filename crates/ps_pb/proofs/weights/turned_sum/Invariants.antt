use Rattle.std.proofs.Common.{◌≡◌}
use Rattle.ps_pb.specs.Weights.{sum_below, turned}
use Rattle.ps_pb.specs.Coefficients.{number_at}
use Rattle.ps_pb.proofs.weights.turned_sum.Given as goal

abbrev pub invariant-loop-coefficient : goal.invariant-loop-coefficient
invariant-loop-coefficient l = l.sum ≡ sum_below l.coefficient-index (λ p. turned (number_at l.sums p))
