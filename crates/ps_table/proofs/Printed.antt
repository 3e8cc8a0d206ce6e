-- The numerators of whole numbers, of scaled numbers and of their sums.
use Rattle.std.proofs.Common.{◌≡◌, ℕ, ◌/◌, ◌<◌, ℤ, pos, ◌+ℤ◌, ◌*ℤ◌, unsigned_abs, sym, ap, ◌∙◌, subst, arith}
use Rattle.std.proofs.lemmas.Int.{ints}
use Rattle.std.proofs.Math.Nat.{eq-one_of_dvd-one}
use Rattle.std.specs.Int.{◌∣◌}
use Rattle.ps_meaning.specs.Gcd.{lcm}
use Rattle.ps_meaning.specs.Coprime.{gcd_is}
use Rattle.ps_meaning.specs.Rational.{Rational, quotient, at_least_one, whole, add, mul}
use Rattle.ps_meaning.specs.Scaled.{scaled}
use Rattle.ps_meaning.proofs.Cross.{quotient_cross}
use Rattle.ps_meaning.proofs.Field.{mul_comm}
use Rattle.ps_meaning.proofs.Whole.{whole-add}
use Rattle.ps_meaning.proofs.Scaling.{scaled_is}
use Rattle.ps_meaning.specs.declared.limits.TheConstants.{PRINTED_LIMIT}
use Rattle.ps_table.specs.Places.{IsTooLargeToPrint}
use Rattle.ps_table.specs.Laws.{PrintedPlacesAreExact}

over_of : Rational → ℤ
over_of x = x.over

-- a whole number has denominator 1
pub whole_under : (z : ℤ) → (whole z).under ≡ 1
unfolding quotient
whole_under z = ap (λ g. 1 / g) (eq-one_of_dvd-one (gcd_is (unsigned_abs z) 1).1)

whole_over : (z : ℤ) → (whole z).over ≡ z
whole_over z =
    let e : (whole z).over *ℤ pos 1 ≡ z *ℤ pos 1 = quotient_cross z (at_least_one 1) ∙ ap (λ k. z *ℤ pos k) (whole_under z) in
    omega (arith, ints, e)

scaled_over : (big : ℕ) (x : Rational) → x.under ∣ big → (mul x (whole (pos big))).over ≡ scaled big x
unfolding over_of
scaled_over big x d = ap over_of (mul_comm x (whole (pos big)) ∙ sym (scaled_is big x d)) ∙ whole_over (scaled big x)

sum_over : (y z : ℤ) → (add (whole y) (whole z)).over ≡ y +ℤ z
unfolding over_of
sum_over y z = ap over_of (whole-add y z) ∙ whole_over (y +ℤ z)

same_lcm : (a b : ℕ) → lcm (unsigned_abs (whole (pos a)).over) (unsigned_abs (whole (pos b)).over) ≡ lcm a b
same_lcm a b = λ i. lcm (unsigned_abs (whole_over (pos a) i)) (unsigned_abs (whole_over (pos b) i))

pub printed_exact : PrintedPlacesAreExact
printed_exact = record {
  multiple = λ i a b op. (subst (λ k. PRINTED_LIMIT < k) (same_lcm a b), subst (λ k. PRINTED_LIMIT < k) (sym (same_lcm a b)));
  multiplier = λ i big op x d. (subst IsTooLargeToPrint (scaled_over big x d), subst IsTooLargeToPrint (sym (scaled_over big x d)));
  weight_multiple = λ i a b op. (subst (λ k. PRINTED_LIMIT < k) (same_lcm a b), subst (λ k. PRINTED_LIMIT < k) (sym (same_lcm a b)));
  weight = λ i big op x d. (subst IsTooLargeToPrint (scaled_over big x d), subst IsTooLargeToPrint (sym (scaled_over big x d)));
  total = λ i op y z. (subst IsTooLargeToPrint (sum_over y z), subst IsTooLargeToPrint (sym (sum_over y z)));
}
