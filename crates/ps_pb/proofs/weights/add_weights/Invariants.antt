use Rattle.std.proofs.Common.{drop}
use Rattle.ps_pb.proofs.Filling.{AreFilled}
use Rattle.ps_pb.proofs.weights.add_weights.Given as goal

abbrev pub invariant-loop-weight : goal.invariant-loop-weight
invariant-loop-weight l = AreFilled l.weights (drop l.weight-index l.weights) l.sums
