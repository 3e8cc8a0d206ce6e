use Rattle.std.proofs.Common.{pos, get_or, FitsSigned, rules, arith, refl}
use Rattle.std.specs.Int.{w64}
use Rattle.std.proofs.lemmas.Int.{to_z-of_z}
use Rattle.ps_lifting.proofs.Products.{met_more}
use Rattle.ps_lifting.proofs.checking.solves.Goals as goal

pub loop-i-preserved : goal.loop-i-preserved
loop-i-preserved c =
    let b = get_or c.args.right.now c.loop-i.i (pos 0) in
    let fits : FitsSigned w64 b = search rules in
    let met = rw (to_z-of_z w64 b fits, c.as_slice.ensures) at c.if-not-meets.ensures in
    met_more c.args.x.now _ c.args.rows.now c.args.right.now c.loop-i.i c.index-rows-i.result (pos 0) c.loop-i-test.true (omega (arith, c.if-rows-right.false)) c.loop-i.invariant (rw c.index-rows-i.is at (met refl))
