use Rattle.std.proofs.Common.{to_z, arith, ◌+◌}
use mir.Syntax.{w128}
use Rattle.std.proofs.lemmas.Int.{ints}
use Rattle.ps_wcnf.proofs.Based.{always-more, always-part}
use Rattle.ps_wcnf.proofs.base.always.Goals as goal

pub overflow_add-sum : goal.overflow_add-sum
overflow_add-sum c =
    let m = always-more c.args.soft.now c.loop-clause.clause-index c.clause-item.result (to_z w128 c.loop-clause.sum-bits) c.loop-clause-test.true c.clause-item.is c.loop-clause.invariant in
    let p = always-part c.args.soft.now (c.loop-clause.clause-index + 1) c.requires.some in
    let q = always-part c.args.soft.now c.loop-clause.clause-index c.requires.some in
    omega (arith, ints, m, p.low, p.high, q.low, q.high, c.loop-clause.invariant, c.requires.most, c.in_ok-more.ensures)

pub loop-clause-preserved : goal.loop-clause-preserved
loop-clause-preserved c =
    let m = always-more c.args.soft.now c.loop-clause.clause-index c.clause-item.result (to_z w128 c.loop-clause.sum-bits) c.loop-clause-test.true c.clause-item.is c.loop-clause.invariant in
    let p = always-part c.args.soft.now (c.loop-clause.clause-index + 1) c.requires.some in
    let q = always-part c.args.soft.now c.loop-clause.clause-index c.requires.some in
    omega (arith, ints, m, p.low, p.high, q.low, q.high, c.loop-clause.invariant, c.requires.most, c.in_ok-more.ensures)

pub returns-clause-low : goal.returns-clause-low
returns-clause-low c = omega (arith, ints, c.loop-clause.invariant, (always-part c.args.soft.now c.loop-clause.clause-index c.requires.some).low)

pub returns-clause-high : goal.returns-clause-high
returns-clause-high c = omega (arith, ints, c.loop-clause.invariant, (always-part c.args.soft.now c.loop-clause.clause-index c.requires.some).high, c.requires.most)
