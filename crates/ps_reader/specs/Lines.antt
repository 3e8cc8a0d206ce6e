-- What is answered of the line at the front of some bytes, where a part is due.
use Rattle.std.specs.Prelude.{ℕ, ◌≡◌, true, List, ◌∷◌}
use Rattle.ps_log.specs.FirstLines.{IsFirstLine}
use Rattle.ps_log.specs.Spellings.{words_of}
use Rattle.ps_answer.specs.declared.item.LineItem.{LineItem}
use Rattle.ps_answer.specs.declared.part.Part.{Part}
use Rattle.ps_answer.specs.Items.{IsLine, IsWithin}
use Rattle.ps_answer.specs.Faults.{is_begun, IsFault}
use Rattle.ps_reader.specs.declared.error.LineError.{LineError}
use Rattle.ps_reader.specs.declared.error.LineError.TheVariants.{Fault, NoMemory}
use Rattle.ps_reader.specs.Read.{Fits, TakesMemory}

-- the first line says this, within the limits, the part may begin so, and this follows it
pub record TakesLine (p : Part) (bytes : List ℕ) (i : LineItem) (rest : List ℕ) : Type 0 where
  pub line : List ℕ
  pub first : IsFirstLine bytes line rest
  pub says : IsLine line i
  pub within : IsWithin i
  pub fits : Fits p i

-- the first line begins with a word that is due, and memory is taken for what it says
pub record IsLackingLine (p : Part) (bytes : List ℕ) : Type 0 where
  pub line : List ℕ
  pub rest : List ℕ
  pub first : IsFirstLine bytes line rest
  pub begun : is_begun p line ≡ true
  pub takes : TakesMemory p (words_of line)

-- the first line is at fault, whatever is due behind the part; or memory lacks for what it says
abbrev pub IsLineFault : Part → List ℕ → LineError → Type 0
IsLineFault p bytes (Fault kind) = (due : List Part) → IsFault (p ∷ due) bytes kind
IsLineFault p bytes NoMemory = IsLackingLine p bytes
