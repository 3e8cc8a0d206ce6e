-- Whole numbers among the rational numbers.
use Rattle.std.proofs.Common.{◌≡◌, ◌≢◌, ℕ, zero, suc, ◌<◌, ℤ, pos, ◌+ℤ◌, ◌*ℤ◌, ◌≤ℤ◌, neg_ℤ, [], ◌∷◌, sym, refl, ap, ◌∙◌, subst, arith}
use Rattle.std.proofs.lemmas.Int.{ints}
use Rattle.ps_meaning.specs.Rational.{Rational, at_least_one, times, whole, zero_q, add, mul, neg, inverse}
use Rattle.ps_meaning.specs.Order.{IsNonneg, IsAbove}
use Rattle.ps_meaning.specs.Sums.{sum_to, int_sum_to}
use Rattle.ps_meaning.proofs.IntRing.{parts, diffs, diff-same}
use Rattle.ps_meaning.proofs.Ring.{var, by, unit}
use Rattle.ps_meaning.proofs.Cross.{quotient-same, quotient_cross, add-quotient, mul-quotient, neg-quotient, times-value}
use Rattle.ps_meaning.proofs.Field.{ring_q, zero_over, mul-inverse, zero_is_fraction}
use Rattle.ps_meaning.proofs.Order.{nonneg-mul, nonneg_of, sign_of_quotient, above_from_cross, inverse_nonneg}

pub whole-add : (a b : ℤ) → add (whole a) (whole b) ≡ whole (a +ℤ b)
whole-add a b =
    let p = parts a in
    let q = parts b in
    add-quotient a b (at_least_one 1) (at_least_one 1)
    ∙ quotient-same _ _ (times (at_least_one 1) (at_least_one 1)) (at_least_one 1) (rw (times-value, p.is, q.is) (simp diffs (diff-same _ _ _ _ (omega arith))))

pub whole-mul : (a b : ℤ) → mul (whole a) (whole b) ≡ whole (a *ℤ b)
whole-mul a b =
    let p = parts a in
    let q = parts b in
    mul-quotient a b (at_least_one 1) (at_least_one 1)
    ∙ quotient-same _ _ (times (at_least_one 1) (at_least_one 1)) (at_least_one 1) (rw (times-value, p.is, q.is) (simp diffs (diff-same _ _ _ _ (omega arith))))

pub whole-neg : (a : ℤ) → neg (whole a) ≡ whole (neg_ℤ a)
whole-neg a = neg-quotient a (at_least_one 1)

-- the sign of a whole number
pub whole_nonneg : (z : ℤ) → pos 0 ≤ℤ z → IsNonneg (whole z)
whole_nonneg z h = nonneg_of z (at_least_one 1) h

pub nonneg_whole : (z : ℤ) → IsNonneg (whole z) → pos 0 ≤ℤ z
nonneg_whole z h = sign_of_quotient z (at_least_one 1) h

pub whole_sum : (n : ℕ) (f : ℕ → ℤ) → sum_to n (λ i. whole (f i)) ≡ whole (int_sum_to n f)
whole_sum zero f = sym zero_is_fraction
whole_sum (suc n) f = ap (λ k. add k (whole (f n))) (whole_sum n f) ∙ whole-add (int_sum_to n f) (f n)

pub whole_above : (big : ℕ) → 0 < big → IsAbove (whole (pos big))
whole_above big h = let c = quotient_cross (pos big) (at_least_one 1) in let d = (whole (pos big)).lowest.positive in above_from_cross (whole (pos big)).over big (whole (pos big)).under h d c

pub whole_pos_not_zero : (big : ℕ) → 0 < big → whole (pos big) ≡ zero_q → ⊥
whole_pos_not_zero big h e = let a = whole_above big h in let z = zero_over (whole (pos big)) e in absurd (omega (arith, ints, a, z))

-- a positive whole factor keeps the sign
pub unscaled : (big : ℕ) (x : Rational) → 0 < big → IsNonneg (mul (whole (pos big)) x) → IsNonneg x
unscaled big x hb h =
    let inv : Rational = inverse (whole (pos big)) in
    let nz : whole (pos big) ≢ zero_q = λ e. whole_pos_not_zero big hb e in
    subst IsNonneg
    (ring_q (inv ∷ (whole (pos big) ∷ (x ∷ []))) (by (var 0) (by (var 1) (var 2))) (by (by (var 1) (var 0)) (var 2)) refl ∙ ap (λ k. mul k x) (mul-inverse (whole (pos big)) nz) ∙ ring_q (x ∷ []) (by unit (var 0)) (var 0) refl)
    (nonneg-mul inv (mul (whole (pos big)) x) (inverse_nonneg (whole (pos big)) (whole_above big hb)) h)
