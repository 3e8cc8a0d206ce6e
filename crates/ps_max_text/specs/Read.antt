-- What is answered of the words of a line, where a part is due.
use Rattle.std.specs.Prelude.{ℕ, ◌≡◌, ◌≤◌, List, length, Some, None, Result, Ok, Err, Bool, ⊤}
use Rattle.ps_log.specs.FirstLines.{IsFirstLine}
use Rattle.ps_log.specs.Spellings.{words_of}
use Rattle.ps_pb.specs.declared.limits.TheConstants.{MOST_VARIABLES}
use Rattle.ps_answer.specs.Words.{Truths, SpellWords}
use Rattle.ps_reader.specs.Read.{IsReadOrLacks, WordSays}
use Rattle.ps_reader.specs.declared.line_fault.LineFault.{LineFault}
use Rattle.ps_reader.specs.declared.line_fault.LineFault.TheVariants.{NotCanonical, TooLarge, NoMemory}
use Rattle.ps_max_text.specs.Items.{item_words, IsProper, IsWithin}
use Rattle.ps_max_text.specs.Parts.{behind}
use Rattle.ps_max_text.specs.Faults.{TakesMemory}
use Rattle.ps_max_text.specs.declared.item.MaxItem.{MaxItem}
use Rattle.ps_max_text.specs.declared.part.MaxPart.{MaxPart}

-- the part may begin with what a line says, whatever is due after it
abbrev pub Fits : MaxPart → MaxItem → Type 0
Fits p i = (due : List MaxPart) → (next : List MaxPart) × (behind p i due ≡ Some next)

-- the part can't begin so
abbrev pub FitsNot : MaxPart → MaxItem → Type 0
FitsNot p i = (due : List MaxPart) → behind p i due ≡ None

-- words say this
pub record IsSaid (words : List (List ℕ)) (i : MaxItem) : Type 0 where
  pub spelled : SpellWords words (item_words i)
  pub proper : IsProper i

-- what is answered of the words of a line, where a part is due
abbrev pub IsItemRead : MaxPart → List (List ℕ) → Result MaxItem LineFault → Type 0
IsItemRead p words (Ok i) = IsSaid words i × IsWithin i × Fits p i
IsItemRead p words (Err NotCanonical) = (i : MaxItem) → IsSaid words i → FitsNot p i
IsItemRead p words (Err TooLarge) = (i : MaxItem) × IsSaid words i × Fits p i × (IsWithin i → ⊥)
IsItemRead p words (Err NoMemory) = TakesMemory p

-- what is answered of the words of the first line, where a part is due
abbrev pub IsFirstItemRead : MaxPart → List ℕ → Result MaxItem LineFault → Type 0
IsFirstItemRead p bytes result = (line rest : List ℕ) → IsFirstLine bytes line rest → IsItemRead p (words_of line) result

-- the values that a word spells are read, or memory lacks
abbrev pub AreValuesRead : List ℕ → Result (List Bool) LineFault → Type 0
AreValuesRead word result = IsReadOrLacks ⊤ (WordSays (λ w. Truths w) (λ w. ⊤) word) (λ w. length w ≤ MOST_VARIABLES) result
