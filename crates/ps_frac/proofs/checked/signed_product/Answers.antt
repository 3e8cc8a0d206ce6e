use Rattle.std.proofs.Common.{◌≡◌, ◌<◌, ◌^◌, ◌*ℤ◌, unsigned_abs, to_z, of_z, arith, ap, ◌∙◌}
use Rattle.std.specs.Int.{w64, w128}
use Rattle.std.proofs.lemmas.Int.{ints}
use Rattle.ps_frac.proofs.Sizes.{small_signed_product}
use Rattle.ps_frac.proofs.checked.signed_product.Goals as goal

pub returns-then-unsigned_abs-lt-HALF_WORD-2 : goal.returns-then-unsigned_abs-lt-HALF_WORD-2
returns-then-unsigned_abs-lt-HALF_WORD-2 c =
    let a = c.args.a in
    let b = c.args.b in
    let ha : unsigned_abs a < 2 ^ 63 = omega (arith, ints) in
    let hb : unsigned_abs b < 2 ^ 63 = omega (arith, ints) in
    let p = small_signed_product a b ha hb in
    let ea : to_z w128 (of_z w128 (to_z w64 (of_z w64 (to_z w128 (of_z w128 a))))) ≡ a = omega (arith, ints) in
    let eb : to_z w128 (of_z w128 (to_z w64 (of_z w64 (to_z w128 (of_z w128 b))))) ≡ b = omega (arith, ints) in
    let same : to_z w128 (of_z w128 (a *ℤ b)) ≡ a *ℤ b = omega (arith, ints, p) in
    record { value = (omega (arith, p), ap (λ z. to_z w128 (of_z w128 z)) (λ i. ea i *ℤ eb i) ∙ same) }
