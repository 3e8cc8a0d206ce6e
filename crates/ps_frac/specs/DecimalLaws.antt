-- What the decimals of a fraction tell.
use Rattle.std.specs.Prelude.{ℕ}
use Rattle.ps_meaning.specs.Rational.{Rational}
use Rattle.ps_frac.specs.Decimals.{HasDecimals, IsRoundedDown, IsRoundedUp, rounded_down, rounded_up}

-- a fraction lies between its decimals, and they are the nearest ones of their digits
abbrev pub DecimalsContainTheirFraction : Type 0
DecimalsContainTheirFraction = (x : Rational) (digits : ℕ) → HasDecimals x
    → IsRoundedDown x (rounded_down x digits) × IsRoundedUp x (rounded_up x digits)
