-- Digits of a column, and the number of a query.
use Rattle.std.specs.Prelude.{ℕ, ◌≡◌, ◌≤◌, List, ◌∷◌, Result, Ok, Err, ⊤}
use Rattle.ps_table.specs.declared.col.Col.{Col}
use Rattle.ps_answer.specs.Items.{IsColWithin}
use Rattle.ps_answer.specs.declared.limits.TheConstants.{MOST_QUERIES}
use Rattle.ps_answer.specs.Words.{SpellsColumn}
use Rattle.ps_reader.specs.declared.line_fault.LineFault.{LineFault}
use Rattle.ps_reader.specs.declared.line_fault.LineFault.TheVariants.{NotCanonical, TooLarge, NoMemory}
use Rattle.ps_reader.specs.Read.{IsRead}

-- digits behind `h`
abbrev pub IsHome : List ℕ → Result Col LineFault → Type 0
IsHome digits result = IsRead (λ c. SpellsColumn (104 ∷ digits) c × ⊤) IsColWithin result

-- digits behind `w`
abbrev pub IsWorld : List ℕ → Result Col LineFault → Type 0
IsWorld digits result = IsRead (λ c. SpellsColumn (119 ∷ digits) c × ⊤) IsColWithin result

-- the number that is due, within its limit
abbrev pub IsQuery : ℕ → ℕ → Result ℕ LineFault → Type 0
IsQuery n due result = IsRead (λ m. (m ≡ n) × (m ≡ due)) (λ m. m ≤ MOST_QUERIES) result

-- the version 1
abbrev pub IsVersion : ℕ → Result (Unit {0}) LineFault → Type 0
IsVersion n (Ok u) = n ≡ 1
IsVersion n (Err why) = (why ≡ NotCanonical) × (n ≡ 1 → ⊥)

-- the number, if it isn't 0
abbrev pub IsNotZero : ℕ → Result ℕ LineFault → Type 0
IsNotZero n (Ok m) = (m ≡ n) × (1 ≤ n)
IsNotZero n (Err why) = (why ≡ TooLarge) × (n ≡ 0)

-- that a number is too large says no more than that it isn't the one that is due
abbrev pub of_any_size : LineFault → LineFault
of_any_size NotCanonical = NotCanonical
of_any_size TooLarge = NotCanonical
of_any_size NoMemory = NoMemory
