-- Numbers of all words that are left.
use Rattle.std.specs.Prelude.{ℕ, ℤ, ◌≤◌, List, map, length, All, Result, Ok, Err, ⊤}
use Rattle.ps_log.specs.Spellings.{Spells}
use Rattle.ps_answer.specs.Items.{IsPrintable}
use Rattle.ps_answer.specs.declared.limits.TheConstants.{MOST_MULTIPLIERS}
use Rattle.ps_answer.specs.Words.{Number, SpellWords}
use Rattle.ps_reader.specs.Read.{IsReadOrLacks, WordsSay}
use Rattle.ps_reader.specs.declared.line_fault.LineFault.{LineFault}
use Rattle.ps_reader.specs.declared.line_fault.LineFault.TheVariants.{NotCanonical, TooLarge, NoMemory}

-- each word spells a number
abbrev pub IsNumbered : List (List ℕ) → Type 0
IsNumbered words = (zs : List ℤ) × SpellWords words (map Number zs)

-- whether a word spells a number
abbrev pub TellsNumber : List ℕ → Result (Unit {0}) LineFault → Type 0
TellsNumber word (Ok u) = (z : ℤ) × Spells word z
TellsNumber word (Err NotCanonical) = (z : ℤ) → Spells word z → ⊥
TellsNumber word (Err TooLarge) = ⊥
TellsNumber word (Err NoMemory) = ⊥

-- whether each word does
abbrev pub TellsNumbers : List (List ℕ) → Result (Unit {0}) LineFault → Type 0
TellsNumbers words (Ok u) = IsNumbered words
TellsNumbers words (Err NotCanonical) = IsNumbered words → ⊥
TellsNumbers words (Err TooLarge) = ⊥
TellsNumbers words (Err NoMemory) = ⊥

-- rows are within the limits
abbrev pub AreRowsWithin : List ℤ → Type 0
AreRowsWithin rows = All IsPrintable rows × (length rows ≤ MOST_MULTIPLIERS)

-- the rows that the words spell are read, or memory lacks
abbrev pub AreRowsRead : List (List ℕ) → Result (List ℤ) LineFault → Type 0
AreRowsRead words result = IsReadOrLacks ⊤ (WordsSay (λ zs. map Number zs) (λ zs. ⊤) words) AreRowsWithin result
