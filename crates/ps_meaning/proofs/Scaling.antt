-- Whole multiples of rational numbers.
use Rattle.std.proofs.Common.{◌≡◌, ℕ, ◌*◌, ◌/◌, ℤ, pos, ◌*ℤ◌, sym, ap, ◌∙◌, arith}
use Rattle.std.proofs.Math.Nat.{div-mul_cancel}
use Rattle.std.specs.Int.{◌∣◌}
use Rattle.ps_meaning.specs.Rational.{Rational, at_least_one, times, den, whole, mul}
use Rattle.ps_meaning.specs.Scaled.{scaled}
use Rattle.ps_meaning.proofs.IntRing.{*ℤ_cancel, parts, diffs, diff-same}
use Rattle.ps_meaning.proofs.Cross.{quotient_cross, quotient_of_parts, mul-quotient, quotient-same, times-value}

moved : (z : ℤ) (a b : ℕ) → (z *ℤ pos a) *ℤ pos (1 * b) ≡ (pos (a * b) *ℤ z) *ℤ pos 1
moved z a b = let p = parts z in rw p.is (simp diffs (diff-same _ _ _ _ (omega arith)))

-- a multiple of the denominator gives a whole number
pub scaled_is : (big : ℕ) (x : Rational) → x.under ∣ big → whole (scaled big x) ≡ mul (whole (pos big)) x
scaled_is big x d =
    let one = at_least_one 1 in
    let e : (big / x.under) * x.under ≡ big = div-mul_cancel x.under d in
    quotient-same (scaled big x) (pos big *ℤ x.over) one (times one (den x))
    (ap (λ k. scaled big x *ℤ pos k) (times-value one (den x)) ∙ moved x.over (big / x.under) x.under ∙ ap (λ k. (pos k *ℤ x.over) *ℤ pos 1) e)
    ∙ sym (mul-quotient (pos big) x.over one (den x))
    ∙ ap (mul (whole (pos big))) (sym (quotient_of_parts x))

pub whole_tells : (a b : ℤ) → whole a ≡ whole b → a ≡ b
whole_tells a b e =
    let one = at_least_one 1 in
    *ℤ_cancel a b (whole a).under (whole a).lowest.positive
    (sym (quotient_cross a one) ∙ ap (λ x. x.over *ℤ pos 1) e ∙ quotient_cross b one ∙ ap (λ x. b *ℤ pos x.under) (sym e))
