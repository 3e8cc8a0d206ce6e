use Rattle.std.proofs.Common.{◌≡◌, ◌+ℤ◌, drop}
use Rattle.ps_pb.specs.Weights.{constant_of}
use Rattle.ps_pb.proofs.weights.constant.Given as goal

abbrev pub invariant-loop-weight : goal.invariant-loop-weight
invariant-loop-weight l = l.sum +ℤ constant_of (drop l.weight-index l.weights) ≡ constant_of l.weights
