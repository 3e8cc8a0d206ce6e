-- What counts of digits.
use Rattle.std.specs.Prelude.{ℕ, ◌+◌, ◌-◌, ◌*◌, ◌≤◌, min, List, [], ◌∷◌}
use Rattle.ps_lex.specs.declared.digits.TheConstants.{MANY_DIGITS, GREAT_VALUE}
use Rattle.ps_lex.specs.declared.digits.Digits.{Digits}

-- before the first digit
abbrev pub no_digits : Digits
no_digits = record { count = 0; value = 0 }

-- one digit more: count and value stand still where they no longer count
abbrev pub with_digit : Digits → ℕ → Digits
with_digit d b = record { count = min (d.count + 1) MANY_DIGITS; value = min (10 * d.value + (b - 48)) GREAT_VALUE }

-- more digits
abbrev pub with_digits : Digits → List ℕ → Digits
with_digits d [] = d
with_digits d (b ∷ bs) = with_digits (with_digit d b) bs

-- a count and a value as they are kept
pub record IsCapped (d : Digits) : Type 0 where
  pub count : d.count ≤ MANY_DIGITS
  pub value : d.value ≤ GREAT_VALUE
