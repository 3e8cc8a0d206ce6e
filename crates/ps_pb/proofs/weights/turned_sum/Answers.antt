use Rattle.std.proofs.Common.{◌≡◌, ◌+ℤ◌, to_z, of_z, arith, ◌∙◌}
use mir.Syntax.{w128}
use Rattle.std.proofs.lemmas.Int.{ints}
use Rattle.ps_pb.proofs.Summed.{next_turned, at_size}
use Rattle.ps_pb.proofs.weights.turned_sum.Goals as goal

pub turned_part-sum-requires : goal.turned_part-sum-requires
turned_part-sum-requires c =
    let s = at_size c.args.sums.now c.loop-coefficient.coefficient-index c.loop-coefficient-test.true c.requires in
    omega (arith, s)

pub overflow_add-sum : goal.overflow_add-sum
overflow_add-sum c =
    let n = next_turned c.args.sums.now c.loop-coefficient.coefficient-index (to_z w128 c.loop-coefficient.sum-bits) c.turned_part-sum.result c.loop-coefficient-test.true c.requires c.loop-coefficient.invariant c.turned_part-sum.ensures in
    omega (arith, ints, n.part, n.low, n.high)

pub loop-coefficient-preserved : goal.loop-coefficient-preserved
loop-coefficient-preserved c =
    let n = next_turned c.args.sums.now c.loop-coefficient.coefficient-index (to_z w128 c.loop-coefficient.sum-bits) c.turned_part-sum.result c.loop-coefficient-test.true c.requires c.loop-coefficient.invariant c.turned_part-sum.ensures in
    let e : to_z w128 (of_z w128 (to_z w128 c.loop-coefficient.sum-bits +ℤ to_z w128 (of_z w128 c.turned_part-sum.result))) ≡ to_z w128 c.loop-coefficient.sum-bits +ℤ c.turned_part-sum.result = omega (arith, ints, n.part, n.low, n.high) in
    e ∙ n.so_far
