-- How many digits are shown, step by step.
use Rattle.std.proofs.Common.{◌≡◌, ℕ, suc, ◌+◌, Bool, true, refl}
use Rattle.ps_meaning.specs.Rational.{Rational}
use Rattle.ps_spoken.specs.declared.digits.TheConstants.{MORE_DIGITS}
use Rattle.ps_spoken.specs.Digits.{digits_from, hides_distance}

-- digits that hide something become more, and one step less is left
pub grows : (times left digits : ℕ) (x y : Rational) → times ≡ suc left → hides_distance digits x y ≡ true
    → digits_from times digits x y ≡ digits_from left (digits + MORE_DIGITS) x y
grows times left digits x y e h = rw (e, h) refl
