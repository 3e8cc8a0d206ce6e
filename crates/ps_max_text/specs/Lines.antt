-- What is answered of the line at the front of some bytes, where a part is due.
use Rattle.std.specs.Prelude.{ℕ, List, ◌∷◌}
use Rattle.ps_log.specs.FirstLines.{IsFirstLine}
use Rattle.ps_reader.specs.declared.error.LineError.{LineError}
use Rattle.ps_reader.specs.declared.error.LineError.TheVariants.{Fault, NoMemory}
use Rattle.ps_max_text.specs.Items.{IsLine, IsWithin}
use Rattle.ps_max_text.specs.Faults.{IsFault, IsLackingLine}
use Rattle.ps_max_text.specs.Read.{Fits}
use Rattle.ps_max_text.specs.declared.item.MaxItem.{MaxItem}
use Rattle.ps_max_text.specs.declared.part.MaxPart.{MaxPart}

-- the first line says this, within the limits, the part may begin so, and this follows it
pub record TakesLine (p : MaxPart) (bytes : List ℕ) (i : MaxItem) (rest : List ℕ) : Type 0 where
  pub line : List ℕ
  pub first : IsFirstLine bytes line rest
  pub says : IsLine line i
  pub within : IsWithin i
  pub fits : Fits p i

-- the first line is at fault, whatever is due behind the part; or memory lacks for what it says
abbrev pub IsLineFault : MaxPart → List ℕ → LineError → Type 0
IsLineFault p bytes (Fault kind) = (due : List MaxPart) → IsFault (p ∷ due) bytes kind
IsLineFault p bytes NoMemory = IsLackingLine p bytes
