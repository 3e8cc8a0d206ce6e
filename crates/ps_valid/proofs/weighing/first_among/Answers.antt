use Rattle.std.proofs.Common.{◌≢◌, pos, of_z, ap}
use mir.Syntax.{w128}
use Rattle.ps_valid.specs.Limits.{IsAmount}
use Rattle.ps_valid.proofs.ProperEntries.{proper-more, refuted, repeated_at, weightless_at, zero_from}
use Rattle.ps_valid.proofs.weighing.first_among.Goals as goal

pub returns-then-w-eq0 : goal.returns-then-w-eq0
returns-then-w-eq0 c =
    let w = c.index-worlds-i.result in
    let small : IsAmount w.weight = rw c.index-worlds-i.is (c.requires.weights c.loop-i.i w c.loop-i-test.true) in
    weightless_at c.args.worlds.now c.loop-i.i w c.loop-i-test.true c.loop-i.invariant (rw (← c.index-worlds-i.is) (zero_from w.weight small.low c.if-w-eq0.true))

pub returns-then-holds : goal.returns-then-holds
returns-then-holds c =
    let w = c.index-worlds-i.result in
    let weighed : w.weight ≢ pos 0 = λ e. c.if-w-eq0.false (ap (of_z w128) e) in
    repeated_at c.args.worlds.now c.loop-i.i w c.loop-i-test.true c.loop-i.invariant (rw (← c.index-worlds-i.is) weighed) (rw (← c.index-worlds-i.is) (c.holds.ensures.0 c.if-holds.true))

pub loop-i-preserved : goal.loop-i-preserved
loop-i-preserved c =
    let w = c.index-worlds-i.result in
    let weighed : w.weight ≢ pos 0 = λ e. c.if-w-eq0.false (ap (of_z w128) e) in
    proper-more c.args.worlds.now c.loop-i.i w c.loop-i-test.true c.loop-i.invariant (rw (← c.index-worlds-i.is) weighed) (rw (← c.index-worlds-i.is) (refuted c.holds.result c.if-holds.false c.holds.ensures.1))
