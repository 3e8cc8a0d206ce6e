use Rattle.std.proofs.Common.{pos, get_or, to_z, FitsSigned, refl, rules, arith}
use Rattle.std.specs.Int.{w64, w128}
use Rattle.std.proofs.lemmas.Int.{to_z-of_z}
use Rattle.ps_lifting.specs.Systems.{dot_product}
use Rattle.ps_lifting.proofs.Products.{dot_product_more}
use Rattle.ps_lifting.proofs.checking.dot_product_of.Goals as goal

pub loop-j-preserved : goal.loop-j-preserved
loop-j-preserved c =
    let a = get_or c.args.row.now c.loop-j.j (pos 0) in
    let x = get_or c.args.x.now c.loop-j.j (pos 0) in
    let fits_a : FitsSigned w64 a = search rules in
    let fits_x : FitsSigned w128 x = search rules in
    let fits : FitsSigned w128 c.in_ok-sum.sum = search rules in
    let is = rw (to_z-of_z w64 a fits_a, to_z-of_z w128 x fits_x) at c.in_ok-sum.ensures in
    let now = dot_product_more c.args.row.now c.args.x.now c.loop-j.j a x (to_z w128 c.loop-j.sum-bits) (dot_product c.args.row.now c.args.x.now) (pos 0) (pos 0) c.loop-j-test.true (omega (arith, c.loop-j-test.true)) refl refl c.loop-j.invariant in
    rw (to_z-of_z w128 c.in_ok-sum.sum fits, is) now
