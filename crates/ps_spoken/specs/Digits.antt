-- How many digits the decimals of bounds have.
use Rattle.std.specs.Prelude.{ℕ, zero, suc, pos, ◌+◌, ◌-◌, ◌/◌, ◌==◌, ◌&&◌, ◌||◌, if◌then◌else◌, Bool, true, false}
use Rattle.std.specs.declared.cmp.Ordering.{Ordering}
use Rattle.std.specs.declared.cmp.Ordering.TheVariants.{Less, Equal, Greater}
use Rattle.ps_meaning.specs.Rational.{Rational, whole}
use Rattle.ps_meaning.specs.Order.{order_of}
use Rattle.ps_frac.specs.Decimals.{has_decimals, rounded_down, rounded_up}
use Rattle.ps_frac.specs.declared.limits.TheConstants.{MOST_DIGITS}
use Rattle.ps_spoken.specs.declared.digits.TheConstants.{MORE_DIGITS}

-- whether two numbers have one decimal of so many digits, rounded down or rounded up
abbrev pub is_one_decimal : ℕ → Rational → Rational → Bool
is_one_decimal digits x y = (rounded_down x digits).units == (rounded_down y digits).units
    || (rounded_up x digits).units == (rounded_up y digits).units

-- whether the first of two numbers in this order is the lower one
abbrev pub is_lower : Ordering → Bool
is_lower Less = true
is_lower Equal = false
is_lower Greater = false

-- whether so many digits hide that one number is below another
unfoldable pub hides_order : ℕ → Rational → Rational → Bool
hides_order digits x y = is_lower (order_of x y) && (has_decimals x && (has_decimals y && is_one_decimal digits x y))

-- whether so many digits hide that 0 is below a bound, one bound below another, or a bound below 1
unfoldable pub hides_distance : ℕ → Rational → Rational → Bool
hides_distance digits x y =
    hides_order digits (whole (pos 0)) x || (hides_order digits x y || hides_order digits y (whole (pos 1)))

-- three digits more, and so on so many times, as long as they hide that
abbrev pub digits_from : ℕ → ℕ → Rational → Rational → ℕ
digits_from zero digits x y = digits
digits_from (suc times) digits x y = if hides_distance digits x y then digits_from times (digits + MORE_DIGITS) x y else digits

-- how many digits are shown of two bounds where so many are asked for
abbrev pub shown_digits : ℕ → Rational → Rational → ℕ
shown_digits digits x y = digits_from ((MOST_DIGITS - digits) / MORE_DIGITS) digits x y
