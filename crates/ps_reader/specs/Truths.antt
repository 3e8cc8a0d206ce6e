-- Digits of a world.
use Rattle.std.specs.Prelude.{ℕ, ◌≡◌, ◌≤◌, ◌⊎◌, List, length, Result, ⊤}
use Rattle.ps_meaning.specs.Formula.{World}
use Rattle.ps_formula.specs.declared.limits.TheConstants.{MOST_ATOMS}
use Rattle.ps_answer.specs.Words.{Truths}
use Rattle.ps_reader.specs.declared.line_fault.LineFault.{LineFault}
use Rattle.ps_reader.specs.Read.{IsReadOrLacks, WordSays}

-- a byte is `0` or `1`
abbrev pub IsTruth : ℕ → Type 0
IsTruth b = (b ≡ 48) ⊎ (b ≡ 49)

-- the world that a word spells is read, or memory lacks
abbrev pub IsWorldRead : List ℕ → Result World LineFault → Type 0
IsWorldRead word result = IsReadOrLacks ⊤ (WordSays (λ w. Truths w) (λ w. ⊤) word) (λ w. length w ≤ MOST_ATOMS) result
