-- The rational numbers: integers over positive numbers, in lowest terms, so that equal numbers are equal.
use Rattle.std.proofs.Common.{◌≡◌, ℕ, zero, suc, ◌*◌, ◌/◌, ◌<◌, ℤ, pos}
use Rattle.std.proofs.Common.{negsuc, ◌+ℤ◌, ◌*ℤ◌, neg_ℤ, unsigned_abs, int_div, lit≤, sym, subst}
use Rattle.std.specs.Int.{IsGcd}
use Rattle.std.specs.Coded.{Coded, coded×, coded_ℤ, coded_ℕ}
use Rattle.std.proofs.Math.Nat.{mul-pos, ∣_prop}
use native.Mathlib.Bridge.{le_prop}
use mathlib.Core.HLevel.{is_prop→PathP}
use Rattle.ps_meaning.specs.Gcd.{gcd}
use Rattle.ps_meaning.specs.Coprime.{gcd_is, gcd_pos_right, coprime_rest}
use Rattle.ps_meaning.specs.Parts.{quot_abs, part_pos, suc_is_positive}

-- the denominator is positive and has no factor in common with the numerator
pub record IsLowestTerms (z : ℤ) (d : ℕ) : Type 0 where
  pub positive : 0 < d
  pub coprime : IsGcd (unsigned_abs z) d 1

-- a rational number, as numerator and denominator in lowest terms
pub record Rational : Type 0 where
  pub over : ℤ
  pub under : ℕ
  pub lowest : IsLowestTerms over under

-- a natural number above 0
pub record Positive : Type 0 where
  pub value : ℕ
  pub positive : 0 < value

-- n + 1
abbrev pub suc_positive : ℕ → Positive
suc_positive n = record { value = suc n; positive = suc_is_positive n }

-- 1, as a positive number
abbrev pub one_positive : Positive
one_positive = record { value = 1; positive = lit≤ tt }

-- the denominator
abbrev pub den : Rational → Positive
den x = record { value = x.under; positive = x.lowest.positive }

-- the product of two positive numbers
unfoldable pub times : Positive → Positive → Positive
times a b = record { value = a.value * b.value; positive = mul-pos a.positive b.positive }

-- numerator and denominator divided by what is common to both are in lowest terms
pub lowest_of : (z : ℤ) (d : Positive) → IsLowestTerms (int_div z (pos (gcd (unsigned_abs z) d.value)))
    (d.value / gcd (unsigned_abs z) d.value)
lowest_of z d =
    let g = gcd (unsigned_abs z) d.value in
    let i = gcd_is (unsigned_abs z) d.value in
    let h = gcd_pos_right (unsigned_abs z) d.value d.positive in
    record {
      positive = part_pos d.value g d.positive i.1;
      coprime = subst (λ k. IsGcd k (d.value / g) 1) (sym (quot_abs z g)) (coprime_rest (unsigned_abs z) d.value g h i);
    }

-- z / d
unfoldable pub quotient : ℤ → Positive → Rational
quotient z d = record {
  over = int_div z (pos (gcd (unsigned_abs z) d.value));
  under = d.value / gcd (unsigned_abs z) d.value;
  lowest = lowest_of z d;
}

-- the number, and 1 for 0
abbrev pub at_least_one : ℕ → Positive
at_least_one zero = one_positive
at_least_one (suc n) = suc_positive n

-- z / d, and z / 1 where d is 0
abbrev pub fraction : ℤ → ℕ → Rational
fraction z d = quotient z (at_least_one d)

-- a whole number
abbrev pub whole : ℤ → Rational
whole z = fraction z 1

-- 0
unfoldable pub zero_q : Rational
zero_q = quotient (pos 0) one_positive

-- 1
unfoldable pub one_q : Rational
one_q = quotient (pos 1) one_positive

-- a/b + c/d = (a*d + c*b) / (b*d)
unfoldable pub add : Rational → Rational → Rational
add x y = quotient (x.over *ℤ pos y.under +ℤ y.over *ℤ pos x.under) (times (den x) (den y))

-- a/b * c/d = (a*c) / (b*d)
unfoldable pub mul : Rational → Rational → Rational
mul x y = quotient (x.over *ℤ y.over) (times (den x) (den y))

-- -x
unfoldable pub neg : Rational → Rational
neg x = quotient (neg_ℤ x.over) (den x)

-- x - y
abbrev pub sub : Rational → Rational → Rational
sub x y = add x (neg y)

-- d / z, and 0 where z is 0
unfoldable pub inverse_of : ℤ → Positive → Rational
inverse_of (pos zero) d = zero_q
inverse_of (pos (suc n)) d = quotient (pos d.value) (suc_positive n)
inverse_of (negsuc n) d = quotient (neg_ℤ (pos d.value)) (suc_positive n)

-- 1 / x, and 0 for 0
unfoldable pub inverse : Rational → Rational
inverse x = inverse_of x.over (den x)

-- x / y, and 0 where y is 0
abbrev pub div : Rational → Rational → Rational
div x y = mul x (inverse y)

-- there is one proof at most that terms are lowest, so numerator and denominator tell a rational number
pub IsLowestTerms_prop : (z : ℤ) (d : ℕ) → IsProp (IsLowestTerms z d)
IsLowestTerms_prop z d = hlevel (le_prop, ∣_prop)

-- rational numbers of the same numerator and denominator are equal
pub rational_path : (x y : Rational) → x.over ≡ y.over → x.under ≡ y.under → x ≡ y
rational_path x y e f = λ i. record {
  over = e i;
  under = f i;
  lowest = is_prop→PathP (λ j. IsLowestTerms (e j) (f j)) (λ j. IsLowestTerms_prop (e j) (f j)) x.lowest y.lowest i;
}

-- rational numbers as codes, which a type with such a value needs
abbrev pub coded_rational : Coded Rational
coded_rational = record {
  code = λ x. (coded× coded_ℤ coded_ℕ).code (x.over, x.under);
  inj = λ x y e.
      let same = (coded× coded_ℤ coded_ℕ).inj (x.over, x.under) (y.over, y.under) e in
      rational_path x y (λ i. (same i).0) (λ i. (same i).1);
}
