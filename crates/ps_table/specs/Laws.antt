-- What the laws of places say.
use Rattle.std.specs.Prelude.{◌↔◌, ℕ, ◌<◌, ℤ, pos, ◌+ℤ◌}
use Rattle.std.specs.Int.{◌∣◌}
use Rattle.ps_frac.specs.declared.wide.Op.{Op}
use Rattle.ps_meaning.specs.Gcd.{lcm}
use Rattle.ps_meaning.specs.Rational.{Rational, whole}
use Rattle.ps_meaning.specs.Scaled.{scaled}
use Rattle.ps_meaning.specs.declared.limits.TheConstants.{PRINTED_LIMIT}
use Rattle.ps_table.specs.declared.place.Place.TheVariants.{Whole, Scaled, Weight, Weighed, Total}
use Rattle.ps_table.specs.Places.{IsTooLargeToPrint, IsWide}

-- a place of a printed number is wide exactly where that number is too large: a least common multiple, a multiplier or a
-- value times a multiple of its denominator, and a sum of weights
pub record PrintedPlacesAreExact : Type 0 where
  pub multiple : (i a b : ℕ) (op : Op)
      → IsWide (record { place = Whole i; op = op; left = whole (pos a); right = whole (pos b) }) ↔ (PRINTED_LIMIT < lcm a b)
  pub multiplier : (i big : ℕ) (op : Op) (x : Rational) → x.under ∣ big
      → IsWide (record { place = Scaled i; op = op; left = x; right = whole (pos big) }) ↔ IsTooLargeToPrint (scaled big x)
  pub weight_multiple : (i a b : ℕ) (op : Op)
      → IsWide (record { place = Weight i; op = op; left = whole (pos a); right = whole (pos b) }) ↔ (PRINTED_LIMIT < lcm a b)
  pub weight : (i big : ℕ) (op : Op) (x : Rational) → x.under ∣ big
      → IsWide (record { place = Weighed i; op = op; left = x; right = whole (pos big) }) ↔ IsTooLargeToPrint (scaled big x)
  pub total : (i : ℕ) (op : Op) (y z : ℤ)
      → IsWide (record { place = Total i; op = op; left = whole y; right = whole z }) ↔ IsTooLargeToPrint (y +ℤ z)
