-- Pivots of rows of small whole numbers: no operation on their entries is too large.
use Rattle.std.proofs.Common.{◌≡◌, ◌≢◌, ℕ, ◌+◌, ◌*◌, ◌<◌, ◌≤◌, ◌^◌, List, get_or, ℤ, pos, ◌*ℤ◌, neg_ℤ, unsigned_abs, [], ◌∷◌, refl, ap, sym, ◌∙◌, subst, arith}
use Rattle.std.proofs.lemmas.Int.{ints, unsigned_abs-mul}
use Rattle.std.proofs.Math.Nat.{mul-le-mul}
use Rattle.ps_meaning.specs.Rational.{Positive, at_least_one, times, quotient, fraction, mul, neg, inverse, div, zero_q, one_q, one_positive}
use Rattle.ps_meaning.specs.Wide.{SumIsWide, ProductIsWide, size_limit}
use Rattle.ps_meaning.proofs.Ring.{var, by}
use Rattle.ps_meaning.proofs.IntRing.{ring_z, *ℤ_comm}
use Rattle.ps_meaning.proofs.Cross.{times-value, quotient-same, mul-quotient, neg-quotient}
use Rattle.ps_meaning.proofs.Field.{mul_comm, mul-one}
use Rattle.ps_whole.specs.Whole.{WholeCells, IsWhole, whole_at, number_at, under_at}
use Rattle.ps_whole.specs.Pivots.{over_row, IsNarrowPivot}
use Rattle.ps_whole.proofs.NewCells.{own_row, expanded}
use Rattle.ps_whole.proofs.Sizes.{sum_is_small, product_is_small}
use Rattle.ps_whole.proofs.Changes.{at_least_one_value, not_zero, Sign, sign_of}

small_product : (x y : ℕ) → x < 2 ^ 62 → y < 2 ^ 62 → x * y < 2 ^ 125
small_product x y hx hy =
    let a : x ≤ 2 ^ 62 = omega (arith, hx) in
    let b : y ≤ 2 ^ 62 = omega (arith, hy) in
    let c : x * y ≤ 2 ^ 62 * 2 ^ 62 = mul-le-mul a b in
    omega (arith, c)

abs_neg : (z : ℤ) → unsigned_abs (neg_ℤ z) ≡ unsigned_abs z
abs_neg z = omega (arith, ints)

one_times : (n : ℕ) → 1 * n ≡ n
one_times n = omega arith

abs_signed : (a z : ℤ) (σ : Sign a) → unsigned_abs (σ.unit_is *ℤ z) ≡ unsigned_abs z
abs_signed a z σ = unsigned_abs-mul σ.unit_is z ∙ ap (λ n. n * unsigned_abs z) σ.one ∙ one_times (unsigned_abs z)

one_over : (d : Positive) → one_q ≡ quotient (pos d.value) d
unfolding one_q
one_over d = quotient-same (pos 1) (pos d.value) one_positive d (*ℤ_comm (pos 1) (pos d.value))

-- 1 over a number
inverse_is : (a : ℤ) (e : ℕ) → fraction a e ≢ zero_q → inverse (fraction a e) ≡ fraction ((sign_of a).unit_is *ℤ pos (at_least_one e).value) (unsigned_abs a)
inverse_is a e nz =
    let σ = sign_of a in
    let u = σ.unit_is in
    let d = (at_least_one e).value in
    let r = at_least_one (unsigned_abs a) in
    let re : r.value ≡ unsigned_abs a = at_least_one_value (unsigned_abs a) (not_zero a e nz) in
    let own : (u *ℤ pos d) *ℤ a ≡ pos d *ℤ pos r.value =
    ring_z (u ∷ pos d ∷ a ∷ []) (by (by (var 0) (var 1)) (var 2)) (by (var 1) (by (var 0) (var 2))) refl
    ∙ ap (λ z. pos d *ℤ z) σ.size
    ∙ ap (λ n. pos d *ℤ pos n) (sym re) in
    sym (mul-one (inverse (fraction a e)))
    ∙ mul_comm (inverse (fraction a e)) one_q
    ∙ ap (λ k. mul k (inverse (fraction a e))) (one_over (at_least_one e))
    ∙ own_row (pos d) a (u *ℤ pos d) (at_least_one e) r nz own

pub narrow_pivot : (w : WholeCells) → IsWhole w → (p : ℕ) (column : List ℤ) (i j : ℕ) → ((k : ℕ) → unsigned_abs (get_or column k (pos 0)) < 2 ^ 62)
    → over_row w column p ≢ zero_q → IsNarrowPivot (whole_at w) (over_row w column) p i j
narrow_pivot w ok p column i j smalls nz =
    let N = number_at w i j in
    let c = get_or column i (pos 0) in
    let P = number_at w p j in
    let a = get_or column p (pos 0) in
    let d = at_least_one (under_at w i) in
    let e = at_least_one (under_at w p) in
    let σ = sign_of a in
    let u = σ.unit_is in
    let r = at_least_one (unsigned_abs a) in
    let re : r.value ≡ unsigned_abs a = at_least_one_value (unsigned_abs a) (not_zero a (under_at w p) nz) in
    let de : d.value ≡ under_at w i = at_least_one_value (under_at w i) (ok.positive i) in
    let ee : e.value ≡ under_at w p = at_least_one_value (under_at w p) (ok.positive p) in
    let sN : unsigned_abs N < 2 ^ 62 = ok.small (i * w.width + j) in
    let sc : unsigned_abs c < 2 ^ 62 = smalls i in
    let sP : unsigned_abs P < 2 ^ 62 = ok.small (p * w.width + j) in
    let sr : r.value < 2 ^ 62 = subst (λ n. n < 2 ^ 62) (sym re) (smalls p) in
    let sd : d.value < 2 ^ 62 = subst (λ n. n < 2 ^ 62) (sym de) (ok.small_unders i) in
    let se : e.value < 2 ^ 62 = subst (λ n. n < 2 ^ 62) (sym ee) (ok.small_unders p) in
    let se' : unsigned_abs (u *ℤ pos e.value) < 2 ^ 62 = subst (λ n. n < 2 ^ 62) (sym (abs_signed a (pos e.value) σ)) se in
    let suP : unsigned_abs (u *ℤ P) < 2 ^ 62 = subst (λ n. n < 2 ^ 62) (sym (abs_signed a P σ)) sP in
    let own : (u *ℤ P) *ℤ a ≡ P *ℤ pos r.value =
    ring_z (u ∷ P ∷ a ∷ []) (by (by (var 0) (var 1)) (var 2)) (by (var 1) (by (var 0) (var 2))) refl
    ∙ ap (λ z. P *ℤ z) σ.size
    ∙ ap (λ n. P *ℤ pos n) (sym re) in
    let row : div (whole_at w p j) (over_row w column p) ≡ quotient (u *ℤ P) r = own_row P a (u *ℤ P) e r nz own in
    let turned : inverse (over_row w column p) ≡ quotient (u *ℤ pos e.value) r = inverse_is a (under_at w p) nz in
    let limit : d.value * r.value < size_limit = omega (arith, small_product d.value r.value sd sr) in
    let lost : neg (mul (over_row w column i) (quotient (u *ℤ P) r)) ≡ quotient (neg_ℤ (c *ℤ (u *ℤ P))) (times d r) =
    ap neg (mul-quotient c (u *ℤ P) d r) ∙ neg-quotient (c *ℤ (u *ℤ P)) (times d r) in
    let lost_size : unsigned_abs (neg_ℤ (c *ℤ (u *ℤ P))) < 2 ^ 126 =
    omega (arith, abs_neg (c *ℤ (u *ℤ P)), unsigned_abs-mul c (u *ℤ P), small_product (unsigned_abs c) (unsigned_abs (u *ℤ P)) sc suP) in
    let here_size : unsigned_abs (N *ℤ pos r.value) < 2 ^ 126 =
    omega (arith, unsigned_abs-mul N (pos r.value), small_product (unsigned_abs N) r.value sN sr) in
    let under_size : (times d r).value < size_limit = omega (arith, times-value d r, limit) in
    record {
      scale = subst (λ k. ¬ ProductIsWide (whole_at w p j) k) (sym turned)
          (product_is_small P (u *ℤ pos e.value) e r (omega (arith, small_product (unsigned_abs P) (unsigned_abs (u *ℤ pos e.value)) sP se')) (omega (arith, small_product e.value r.value se sr)));
      times = subst (λ k. ¬ ProductIsWide (over_row w column i) k) (sym row)
          (product_is_small c (u *ℤ P) d r (omega (arith, small_product (unsigned_abs c) (unsigned_abs (u *ℤ P)) sc suP)) limit);
      minus = subst (λ k. ¬ SumIsWide (whole_at w i j) (neg (mul (over_row w column i) k))) (sym row)
          (subst (λ k. ¬ SumIsWide (whole_at w i j) k) (sym lost)
          (subst (λ k. ¬ SumIsWide k (quotient (neg_ℤ (c *ℤ (u *ℤ P))) (times d r))) (sym (expanded N d r))
          (sum_is_small (N *ℤ pos r.value) (neg_ℤ (c *ℤ (u *ℤ P))) (times d r) here_size lost_size under_size)));
    }
