use Rattle.std.proofs.Common.{◌≡◌, ◌+◌, drop, unsigned_abs}
use Rattle.ps_pb.specs.Weights.{size_sum}
use Rattle.ps_pb.proofs.terms.sizes_fit.Given as goal

abbrev pub invariant-loop-weight : goal.invariant-loop-weight
invariant-loop-weight l = l.sum + size_sum (drop l.weight-index l.weights) ≡ unsigned_abs l.number + size_sum l.weights
