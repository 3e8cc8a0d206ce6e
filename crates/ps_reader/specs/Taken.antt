-- What a call does that takes lines of a report.
use Rattle.std.specs.Prelude.{ℕ, ◌+◌, ◌≡◌, List, [], ◌∷◌, ◌++◌, length, Some, Result, Ok, Err}
use Rattle.std.specs.List.{AllByRecursion}
use Rattle.ps_answer.specs.declared.item.LineItem.{LineItem}
use Rattle.ps_answer.specs.declared.part.Part.{Part}
use Rattle.ps_answer.specs.declared.error.LineKind.{LineKind}
use Rattle.ps_answer.specs.declared.error.ReportError.{ReportError}
use Rattle.ps_answer.specs.declared.error.ReportError.TheVariants.{At, NoMemory}
use Rattle.ps_answer.specs.Items.{IsWithin}
use Rattle.ps_answer.specs.ExpectedParts.{due_behind, many}
use Rattle.ps_answer.specs.Faults.{BeginWith, IsFault}
use Rattle.ps_reader.specs.declared.lines.Lines.{Lines}
use Rattle.ps_reader.specs.Errors.{LacksAt}

-- the bytes that are left
abbrev pub left_in : Lines → List ℕ
left_in l = l.rest.now

-- lines within the limits that say this were taken
pub record Takes (old new : Lines) (items : List LineItem) : Type 0 where
  pub before : BeginWith (left_in old) items (left_in new)
  pub within : AllByRecursion IsWithin items
  pub count : new.taken ≡ old.taken + length items

-- where these parts are due, lines before this one are due and within the limits, and this one is at fault
pub record FaultAt (old : Lines) (due : List Part) (kind : LineKind) (line : ℕ) : Type 0 where
  pub items : List LineItem
  pub rest : List ℕ
  pub next : List Part
  pub before : BeginWith (left_in old) items rest
  pub within : AllByRecursion IsWithin items
  pub due_is : due_behind due items ≡ Some next
  pub number : line ≡ old.taken + length items + 1
  pub fault : IsFault next rest kind

-- the first fault, or a line for which memory lacks, where these parts are due and then any others
abbrev pub IsStopped : Lines → List Part → ReportError → Type 0
IsStopped old parts (At kind line) = (due : List Part) → FaultAt old (parts ++ due) kind line
IsStopped old parts NoMemory = (due : List Part) → LacksAt (parts ++ due) (left_in old)

-- a value is read from its lines, or they are at fault
abbrev pub IsValueRead : {X : Type 0} → (X → List LineItem) → List Part → Lines → Lines → Result X ReportError → Type 0
IsValueRead items_of parts old new (Ok x) = Takes old new (items_of x)
IsValueRead items_of parts old new (Err e) = IsStopped old parts e

-- one line is read, with which this part begins and ends
abbrev pub IsLineRead : {X : Type 0} → (X → LineItem) → Part → Lines → Lines → Result X ReportError → Type 0
IsLineRead item_of p old new result = IsValueRead (λ x. item_of x ∷ []) (p ∷ []) old new result

-- something is left behind the end
abbrev pub IsMore : Lines → ReportError → Type 0
IsMore l (At kind line) = FaultAt l [] kind line
IsMore l NoMemory = ⊥

-- so many of a part, and no others
abbrev pub repeated : ℕ → Part → List Part
repeated n p = many n p []
