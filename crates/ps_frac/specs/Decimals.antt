-- Decimals: whole multiples of a power of ten, with a number of digits behind the point.
use Rattle.std.proofs.Common.{ℕ, zero, suc, ◌+◌, ◌*◌, ◌/◌, ◌%◌, ◌^◌, ◌<◌, ◌≤◌, ℤ}
use Rattle.std.proofs.Common.{pos, negsuc, unsigned_abs, Bool, true, false, ◌&&◌, nat_le, List, [], ◌∷◌, ◌++◌}
use Rattle.std.specs.Int.{div_ceil}
use Rattle.std.specs.Coded.{Coded, coded×, coded_ℕ}
use Rattle.ps_meaning.specs.Rational.{Rational, Positive, quotient}
use Rattle.ps_meaning.specs.Order.{IsNonneg, AtMost, IsLess}
use Rattle.ps_meaning.specs.declared.limits.TheConstants.{PRINTED_LIMIT}
use Rattle.ps_frac.specs.Powers.{ten_to_is_positive}

-- so many units of the last place, and how many digits there are behind the point
pub record Decimal : Type 0 where
  pub units : ℕ
  pub digits : ℕ

-- decimals as codes, which a type with such a value needs
abbrev pub coded_decimal : Coded Decimal
coded_decimal = record {
  code = λ d. (coded× coded_ℕ coded_ℕ).code (d.units, d.digits);
  inj = λ d e h. let same = (coded× coded_ℕ coded_ℕ).inj (d.units, d.digits) (e.units, e.digits) h in
      λ i. record { units = (same i).0; digits = (same i).1 };
}

-- a power of ten
abbrev pub ten_to : ℕ → Positive
ten_to n = record { value = 10 ^ n; positive = ten_to_is_positive n }

-- so many units of the place of a digit, as a number
abbrev pub number_of : ℕ → ℕ → Rational
number_of units digits = quotient (pos units) (ten_to digits)

-- a decimal, as a number
abbrev pub value_of : Decimal → Rational
value_of d = number_of d.units d.digits

-- a number from 0 to 1 whose denominator isn't too great to be printed
pub record HasDecimals (x : Rational) : Type 0 where
  pub nonneg : IsNonneg x
  pub most : unsigned_abs x.over ≤ x.under
  pub printed : x.under ≤ PRINTED_LIMIT

-- whether a signed number is at least 0
abbrev pub is_nonneg : ℤ → Bool
is_nonneg (pos n) = true
is_nonneg (negsuc n) = false

-- whether a fraction has decimals
unfoldable pub has_decimals : Rational → Bool
has_decimals x = is_nonneg x.over && (nat_le (unsigned_abs x.over) x.under && nat_le x.under PRINTED_LIMIT)

-- a fraction that is at least 0, as a decimal of so many digits, rounded down
abbrev pub rounded_down : Rational → ℕ → Decimal
rounded_down x digits = record { units = unsigned_abs x.over * 10 ^ digits / x.under; digits = digits }

-- the same rounded up
abbrev pub rounded_up : Rational → ℕ → Decimal
rounded_up x digits = record { units = div_ceil (unsigned_abs x.over * 10 ^ digits) x.under; digits = digits }

-- the greatest decimal of its digits that is at most the number
pub record IsRoundedDown (x : Rational) (d : Decimal) : Type 0 where
  pub at_most : AtMost (value_of d) x
  pub greatest : (units : ℕ) → d.units < units → IsLess x (number_of units d.digits)

-- the least decimal of its digits that is at least the number
pub record IsRoundedUp (x : Rational) (d : Decimal) : Type 0 where
  pub at_least : AtMost x (value_of d)
  pub least : (units : ℕ) → units < d.units → IsLess (number_of units d.digits) x

-- the last digits of a number, so many
unfoldable pub last_digits : ℕ → ℕ → List ℕ
last_digits zero n = []
last_digits (suc k) n = last_digits k (n / 10) ++ (48 + n % 10) ∷ []

-- a decimal as it is written: a digit, a point, and its digits behind the point
unfoldable pub text_of : Decimal → List ℕ
text_of d = (48 + d.units / 10 ^ d.digits) ∷ 46 ∷ last_digits d.digits d.units
