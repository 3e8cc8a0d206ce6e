use Rattle.std.proofs.Common.{to_z, arith}
use mir.Syntax.{w128}
use Rattle.std.proofs.lemmas.Int.{ints}
use Rattle.ps_pb.proofs.Summed.{next_constant}
use Rattle.ps_pb.proofs.weights.constant.Goals as goal

pub overflow_add-sum : goal.overflow_add-sum
overflow_add-sum c =
    let n = next_constant c.args.weights.now c.loop-weight.weight-index c.weight-item.result (to_z w128 c.loop-weight.sum-bits) c.constant_part-sum.result c.loop-weight-test.true c.weight-item.is c.loop-weight.invariant c.constant_part-sum.ensures in
    omega (arith, ints, n.part, n.size, c.requires)

pub loop-weight-preserved : goal.loop-weight-preserved
loop-weight-preserved c =
    let n = next_constant c.args.weights.now c.loop-weight.weight-index c.weight-item.result (to_z w128 c.loop-weight.sum-bits) c.constant_part-sum.result c.loop-weight-test.true c.weight-item.is c.loop-weight.invariant c.constant_part-sum.ensures in
    omega (arith, ints, n.so_far, n.part, n.size, c.requires)
