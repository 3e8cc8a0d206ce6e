use Rattle.std.proofs.Common.{to_z, arith, ap, ◌∙◌}
use mir.Syntax.{w128}
use Rattle.std.proofs.lemmas.Int.{ints}
use Rattle.ps_pb.specs.Constraints.{sum_where, is_open}
use Rattle.ps_pb.specs.Weights.{terms_of}
use Rattle.ps_pb.proofs.Summed.{next_sum, sum_where-size, none_after}
use Rattle.ps_pb.proofs.propagation.slack.Goals as goal

pub overflow_add-sum : goal.overflow_add-sum
overflow_add-sum c =
    let normal = rw (← c.as_slice-term-items.ensures) at c.terms.ensures.normal in
    let n = next_sum (is_open c.args.a.now) c.as_slice-term-items.result.now c.loop-term.term-index c.term-item.result (to_z w128 c.loop-term.sum-bits) c.open_part-sum.result
    normal.positive c.loop-term-test.true c.term-item.is c.loop-term.invariant.so_far c.open_part-sum.ensures in
    omega (arith, ints, normal.narrow, n.part, n.high, c.loop-term.invariant.from)

pub loop-term-preserved : goal.loop-term-preserved
loop-term-preserved c =
    let normal = rw (← c.as_slice-term-items.ensures) at c.terms.ensures.normal in
    let n = next_sum (is_open c.args.a.now) c.as_slice-term-items.result.now c.loop-term.term-index c.term-item.result (to_z w128 c.loop-term.sum-bits) c.open_part-sum.result
    normal.positive c.loop-term-test.true c.term-item.is c.loop-term.invariant.so_far c.open_part-sum.ensures in
    record {
      so_far = omega (arith, ints, normal.narrow, n.so_far, n.part, n.high, c.loop-term.invariant.from);
      from = omega (arith, ints, normal.narrow, n.part, n.high, c.loop-term.invariant.from);
    }

pub overflow_sub-result : goal.overflow_sub-result
overflow_sub-result c =
    let normal = rw (← c.as_slice-term-items.ensures) at c.terms.ensures.normal in
    let all = none_after (is_open c.args.a.now) c.as_slice-term-items.result.now c.loop-term.term-index (to_z w128 c.loop-term.sum-bits) c.loop-term-test.false c.loop-term.invariant.so_far in
    omega (arith, ints, normal.narrow, all, sum_where-size (is_open c.args.a.now) c.as_slice-term-items.result.now, c.degree.ensures.value, c.degree.ensures.within)

pub returns : goal.returns
returns c =
    let normal = rw (← c.as_slice-term-items.ensures) at c.terms.ensures.normal in
    let all = none_after (is_open c.args.a.now) c.as_slice-term-items.result.now c.loop-term.term-index (to_z w128 c.loop-term.sum-bits) c.loop-term-test.false c.loop-term.invariant.so_far in
    let same = ap (sum_where (is_open c.args.a.now)) (ap terms_of c.as_slice-term-items.ensures ∙ c.terms.ensures.same) in
    omega (arith, ints, normal.narrow, all, same, sum_where-size (is_open c.args.a.now) c.as_slice-term-items.result.now, c.degree.ensures.value, c.degree.ensures.within)
