-- Words that spell numbers, cut off past every limit.
use Rattle.std.specs.Prelude.{ℕ, ◌+◌, ◌≡◌, ◌≤◌, ℤ, List, min, Option, Some, None, Result, unsigned_abs}
use Rattle.std.specs.Str.Parse.{digits_value}
use Rattle.ps_log.specs.Spellings.{IsPlain, IsDecimal, Spells}
use Rattle.ps_answer.specs.declared.limits.TheConstants.{MOST_OPERAND}
use Rattle.ps_reader.specs.declared.line_fault.LineFault.{LineFault}
use Rattle.ps_reader.specs.Read.{IsRead}

-- a size, or one above each limit
abbrev pub capped_size : ℕ → ℕ
capped_size n = min (MOST_OPERAND + 1) n

-- the size that digits spell
abbrev pub IsSize : List ℕ → Option ℕ → Type 0
IsSize word None = IsPlain word → ⊥
IsSize word (Some n) = IsPlain word × (n ≡ capped_size (digits_value 10 word))

-- the number that digits spell, up to a limit
abbrev pub IsCountUpTo : ℕ → List ℕ → Result ℕ LineFault → Type 0
IsCountUpTo limit word result = IsRead (IsDecimal word) (λ n. n ≤ limit) result

-- the number that a word spells, up to a limit
abbrev pub IsNumberUpTo : ℕ → List ℕ → Result ℤ LineFault → Type 0
IsNumberUpTo limit word result = IsRead (Spells word) (λ z. unsigned_abs z ≤ limit) result
