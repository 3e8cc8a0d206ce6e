-- How fast a bound moves with a number of a sentence, by a dual.
use Rattle.std.specs.Prelude.{ℕ, ℤ, pos, neg_ℤ, ◌*ℤ◌, unsigned_abs, Bool, Option, Some, None, if◌then◌else◌}
use Rattle.ps_meaning.specs.Rational.{Rational, fraction}
use Rattle.ps_support.specs.declared.bound_side.BoundSide.{BoundSide}
use Rattle.ps_support.specs.declared.bound_side.BoundSide.TheVariants.{Lower, Upper}

-- a multiplier in units of its sentence's number
abbrev pub size_of : ℤ → ℕ → ℤ
size_of y unit = y *ℤ pos unit

-- the same, above 0 where the bound rises with that number
abbrev pub towards : BoundSide → ℤ → ℤ
towards Lower z = z
towards Upper z = neg_ℤ z

-- how fast the bound of a dual with this top moves with that number
abbrev pub rate_of : BoundSide → ℤ → ℤ → Rational
rate_of side size top = fraction (towards side size) (unsigned_abs top)

-- how far it moves where that number rises by a hundredth
abbrev pub hundredth_of : BoundSide → ℤ → ℤ → Rational
hundredth_of side size top = fraction (towards side size) (unsigned_abs (top *ℤ pos 100))

-- the same where that is wanted
abbrev pub hundredth_where : Bool → BoundSide → ℤ → ℤ → Option Rational
hundredth_where wanted side size top = if wanted then Some (hundredth_of side size top) else None
