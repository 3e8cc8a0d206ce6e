use Rattle.std.proofs.Common.{to_z, arith, ◌+◌}
use mir.Syntax.{w128}
use Rattle.std.proofs.lemmas.Int.{ints}
use Rattle.ps_wcnf.proofs.Weighed.{weighed-more, cost-part, gain-part}
use Rattle.ps_wcnf.proofs.weighing.weigh.Goals as goal

pub overflow_add-costs : goal.overflow_add-costs
overflow_add-costs c =
    let m = weighed-more c.args.values.now c.args.soft.now c.loop-clause.clause-index c.clause-item.result (to_z w128 c.loop-clause.costs-bits) (to_z w128 c.loop-clause.gains-bits) c.loop-clause-test.true c.clause-item.is c.loop-clause.invariant in
    let p = cost-part c.args.values.now c.args.soft.now (c.loop-clause.clause-index + 1) c.requires.some in
    let q = cost-part c.args.values.now c.args.soft.now c.loop-clause.clause-index c.requires.some in
    omega (arith, ints, m.costs_are, p.low, p.high, q.low, q.high, c.loop-clause.invariant.costs_are, c.requires.most, c.parts-cost.ensures.cost)

pub overflow_add-gains : goal.overflow_add-gains
overflow_add-gains c =
    let m = weighed-more c.args.values.now c.args.soft.now c.loop-clause.clause-index c.clause-item.result (to_z w128 c.loop-clause.costs-bits) (to_z w128 c.loop-clause.gains-bits) c.loop-clause-test.true c.clause-item.is c.loop-clause.invariant in
    let p = gain-part c.args.values.now c.args.soft.now (c.loop-clause.clause-index + 1) c.requires.some in
    let q = gain-part c.args.values.now c.args.soft.now c.loop-clause.clause-index c.requires.some in
    omega (arith, ints, m.gains_are, p.low, p.high, q.low, q.high, c.loop-clause.invariant.gains_are, c.requires.most, c.parts-cost.ensures.gain)

pub loop-clause-preserved : goal.loop-clause-preserved
loop-clause-preserved c =
    let m = weighed-more c.args.values.now c.args.soft.now c.loop-clause.clause-index c.clause-item.result (to_z w128 c.loop-clause.costs-bits) (to_z w128 c.loop-clause.gains-bits) c.loop-clause-test.true c.clause-item.is c.loop-clause.invariant in
    let p = cost-part c.args.values.now c.args.soft.now (c.loop-clause.clause-index + 1) c.requires.some in
    let q = cost-part c.args.values.now c.args.soft.now c.loop-clause.clause-index c.requires.some in
    let r = gain-part c.args.values.now c.args.soft.now (c.loop-clause.clause-index + 1) c.requires.some in
    let s = gain-part c.args.values.now c.args.soft.now c.loop-clause.clause-index c.requires.some in
    record {
      costs_are = omega (arith, ints, m.costs_are, p.low, p.high, q.low, q.high, c.loop-clause.invariant.costs_are, c.requires.most, c.parts-cost.ensures.cost);
      gains_are = omega (arith, ints, m.gains_are, r.low, r.high, s.low, s.high, c.loop-clause.invariant.gains_are, c.requires.most, c.parts-cost.ensures.gain);
    }

pub returns-clause-low : goal.returns-clause-low
returns-clause-low c =
    omega (arith, ints, c.loop-clause.invariant.gains_are, (gain-part c.args.values.now c.args.soft.now c.loop-clause.clause-index c.requires.some).low)

pub returns-clause-high : goal.returns-clause-high
returns-clause-high c =
    omega (arith, ints, c.loop-clause.invariant.gains_are, (gain-part c.args.values.now c.args.soft.now c.loop-clause.clause-index c.requires.some).high, c.requires.most)
