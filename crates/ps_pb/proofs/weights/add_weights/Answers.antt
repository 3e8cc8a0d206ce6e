use Rattle.std.proofs.Common.{drop}
use Rattle.ps_pb.proofs.Filling.{place_within, filled_size, filled_next}
use Rattle.ps_pb.proofs.weights.add_weights.Goals as goal

pub add_weight-requires-clause-place : goal.add_weight-requires-clause-place
add_weight-requires-clause-place c =
    place_within c.args.weights.now (drop c.loop-weight.weight-index c.args.weights.now) c.loop-weight.sums c.loop-weight.weight-index c.weight-item.result c.loop-weight-test.true c.weight-item.is c.loop-weight.invariant

pub add_weight-requires-clause-room : goal.add_weight-requires-clause-room
add_weight-requires-clause-room c =
    filled_size c.args.weights.now c.loop-weight.sums c.loop-weight.weight-index c.weight-item.result c.loop-weight-test.true c.weight-item.is c.requires.size c.loop-weight.invariant

pub loop-weight-preserved : goal.loop-weight-preserved
loop-weight-preserved c =
    rw c.add_weight.ensures (filled_next c.args.weights.now c.loop-weight.sums c.loop-weight.weight-index c.weight-item.result c.loop-weight-test.true c.weight-item.is c.loop-weight.invariant)
