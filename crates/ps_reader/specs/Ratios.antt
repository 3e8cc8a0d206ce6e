-- The parts of a fraction.
use Rattle.std.specs.Prelude.{ℕ, ◌≡◌, ◌≤◌, ◌<◌, ◌^◌, ℤ, pos, ◌≤ℤ◌, List, Result, Ok, Err, unsigned_abs, ⊤}
use Rattle.std.specs.Int.{IsGcd}
use Rattle.ps_log.specs.Spellings.{IsDecimal}
use Rattle.ps_answer.specs.declared.item.Ratio.{Ratio}
use Rattle.ps_answer.specs.Items.{IsReducedWithin, IsRatioWithin}
use Rattle.ps_answer.specs.Words.{Fraction}
use Rattle.ps_reader.specs.declared.line_fault.LineFault.{LineFault}
use Rattle.ps_reader.specs.declared.line_fault.LineFault.TheVariants.{NotCanonical}
use Rattle.ps_reader.specs.Read.{IsRead, IsWordRead, both}

-- a denominator is read
abbrev pub IsUnder : ℕ → List ℕ → Result ℕ LineFault → Type 0
IsUnder limit word result = IsRead (λ n. IsDecimal word n × (1 ≤ n)) (λ n. n ≤ limit) result

-- a fraction is read whose numbers are up to a limit in size
abbrev pub IsRatioUpTo : ℕ → List ℕ → Result Ratio LineFault → Type 0
IsRatioUpTo limit word result = IsWordRead (λ q. Fraction q) (λ q. IsReducedWithin limit q) (λ q.
    IsRatioWithin limit q) word result

-- the value of a side is read: such a fraction, no less than 0
abbrev pub IsValueUpTo : ℕ → List ℕ → Result Ratio LineFault → Type 0
IsValueUpTo limit word result = IsWordRead (λ q. Fraction q) (λ q. (pos 0 ≤ℤ q.over)
    × IsReducedWithin limit q) (λ q. IsRatioWithin limit q) word result

-- the parts fit a fraction
abbrev pub AreParts : Result ℤ LineFault → Result ℕ LineFault → Type 0
AreParts (Ok z) (Ok n) = (unsigned_abs z < 2 ^ 127) × (n < 2 ^ 127) × (1 ≤ n)
AreParts over under = ⊤

-- the fraction of these parts, where it is in lowest terms
abbrev pub IsLowestOf : Result (ℤ × ℕ) LineFault → Result Ratio LineFault → Type 0
IsLowestOf (Ok p) (Ok q) = (q.over ≡ p.0) × (q.under ≡ p.1) × IsGcd (unsigned_abs p.0) p.1 1
IsLowestOf (Ok p) (Err why) = (why ≡ NotCanonical) × (IsGcd (unsigned_abs p.0) p.1 1 → ⊥)
IsLowestOf (Err why) result = result ≡ Err why

-- the fraction of two parts that were read, where it is in lowest terms, or why there is none
abbrev pub IsLowest : Result ℤ LineFault → Result ℕ LineFault → Result Ratio LineFault → Type 0
IsLowest over under result = IsLowestOf (both over under) result
