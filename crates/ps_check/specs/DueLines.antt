-- The lines that a judge of a report has taken.
use Rattle.std.specs.Prelude.{◌≡◌, ℕ, List, [], ◌∷◌, ◌++◌, Some}
use Rattle.std.specs.List.{AllByRecursion}
use Rattle.ps_log.specs.FirstLines.{IsOneLine, IsFirstLine}
use Rattle.ps_answer.specs.declared.item.LineItem.{LineItem}
use Rattle.ps_answer.specs.declared.part.Part.{Part}
use Rattle.ps_answer.specs.declared.error.LineKind.{LineKind}
use Rattle.ps_answer.specs.Items.{IsLine, IsWithin}
use Rattle.ps_answer.specs.ExpectedParts.{at_start, behind, due_behind}
use Rattle.ps_answer.specs.Faults.{AreLines, IsFault}
use Rattle.ps_reader.specs.declared.error.LineError.{LineError}
use Rattle.ps_reader.specs.declared.error.LineError.TheVariants.{Fault, NoMemory}

-- lines say these things within the limits, each of them is due, and behind them these parts are
pub record AreDueLines (lines : List (List ℕ)) (items : List LineItem) (due : List Part) : Type 0 where
  pub whole : AllByRecursion IsOneLine lines
  pub say : AreLines lines items
  pub within : AllByRecursion IsWithin items
  pub due_is : due_behind at_start items ≡ Some due

-- a line with its line feed
pub record HasFeed (line : List ℕ) : Type 0 where
  pub text : List ℕ
  pub is : line ≡ text ++ 10 ∷ []
  pub whole : IsOneLine text

-- a line says this within the limits, where the first of some parts is due, and behind it these are due
pub record IsLineTaken (line : List ℕ) (old : List Part) (item : LineItem) (new : List Part) : Type 0 where
  pub text : List ℕ
  pub rest : List ℕ
  pub first : IsFirstLine line text rest
  pub says : IsLine text item
  pub within : IsWithin item
  pub part : Part
  pub due : List Part
  pub old_is : old ≡ part ∷ due
  pub behind_is : behind part item due ≡ Some new

-- where these parts are due, a line is at fault whatever follows it
pub record IsFaultBefore (due : List Part) (line : List ℕ) (kind : LineKind) : Type 0 where
  pub fault : (more : List ℕ) → IsFault due (line ++ more) kind

-- a line is at fault, unless memory ran out
abbrev pub IsLineAtFault : List Part → List ℕ → LineError → Type 0
IsLineAtFault due line (Fault kind) = IsFaultBefore due line kind
IsLineAtFault due line NoMemory = Unit {0}
