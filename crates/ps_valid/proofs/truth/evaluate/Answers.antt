use Rattle.std.proofs.Common.{◌≡◌, to_z, of_z, arith}
use Rattle.std.proofs.lemmas.Int.{ints}
use mir.Syntax.{w128}
use Rattle.ps_valid.specs.Limits.{IsAmount}
use Rattle.ps_valid.proofs.Tables.{table-more}
use Rattle.ps_valid.proofs.truth.evaluate.Goals as goal

pub eval-requires : goal.eval-requires
eval-requires c = rw c.w-item.is (c.requires.atoms c.loop-w.w-index c.w-item.result c.loop-w-test.true)

pub loop-w-preserved : goal.loop-w-preserved
loop-w-preserved c =
    let w = c.w-item.result in
    let small : IsAmount w.weight = rw c.w-item.is (c.requires.small.weights c.loop-w.w-index w c.loop-w-test.true) in
    let same : to_z w128 (of_z w128 w.weight) ≡ w.weight = omega (arith, ints, small.low, small.high) in
    let more = table-more c.args.formulas.now c.args.worlds.now c.loop-w.valued.items c.loop-w.w-index w _ c.loop-w-test.true c.loop-w.invariant (rw (← c.w-item.is) same) (rw (← c.w-item.is) c.in_ok-values.ensures.truths) in
    rw c.in_ok-push.ensures.items more
