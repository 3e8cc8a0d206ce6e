-- What a call does that takes lines of an answer's text.
use Rattle.std.specs.Prelude.{ℕ, ◌+◌, ◌≡◌, List, [], ◌∷◌, ◌++◌, length, Some, Result, Ok, Err}
use Rattle.std.specs.List.{AllByRecursion}
use Rattle.ps_answer.specs.declared.error.LineKind.{LineKind}
use Rattle.ps_answer.specs.declared.error.ReportError.{ReportError}
use Rattle.ps_answer.specs.declared.error.ReportError.TheVariants.{At, NoMemory}
use Rattle.ps_max_text.specs.Items.{IsWithin}
use Rattle.ps_max_text.specs.Parts.{many_steps, due_behind}
use Rattle.ps_max_text.specs.Faults.{BeginWith, IsFault, LacksAt}
use Rattle.ps_max_text.specs.declared.item.MaxItem.{MaxItem}
use Rattle.ps_max_text.specs.declared.item.MaxItem.TheVariants as item
use Rattle.ps_max_text.specs.declared.part.MaxPart.{MaxPart}
use Rattle.ps_max_text.specs.declared.part.MaxPart.TheVariants as part
use Rattle.ps_max_text.specs.declared.lines.Lines.{Lines}

-- the bytes that are left
abbrev pub left_in : Lines → List ℕ
left_in l = l.rest.now

-- lines within the limits that say this were taken
pub record Takes (old new : Lines) (items : List MaxItem) : Type 0 where
  pub before : BeginWith (left_in old) items (left_in new)
  pub within : AllByRecursion IsWithin items
  pub count : new.taken ≡ old.taken + length items

-- where these parts are due, lines before this one are due and within the limits, and this one is at fault
pub record FaultAt (old : Lines) (parts : List MaxPart) (kind : LineKind) (line : ℕ) : Type 0 where
  pub items : List MaxItem
  pub rest : List ℕ
  pub next : List MaxPart
  pub before : BeginWith (left_in old) items rest
  pub within : AllByRecursion IsWithin items
  pub due_is : due_behind parts items ≡ Some next
  pub number : line ≡ old.taken + length items + 1
  pub fault : IsFault next rest kind

-- the first fault, or a line for which memory lacks, where these parts are due and then any others
abbrev pub IsStopped : Lines → List MaxPart → ReportError → Type 0
IsStopped old parts (At kind line) = (due : List MaxPart) → FaultAt old (parts ++ due) kind line
IsStopped old parts NoMemory = (due : List MaxPart) → LacksAt (parts ++ due) (left_in old)

-- a value is read from its lines, or they are at fault
abbrev pub IsValueRead : {X : Type 0} → (X → List MaxItem) → List MaxPart → Lines → Lines → Result X ReportError → Type 0
IsValueRead items_of parts old new (Ok x) = Takes old new (items_of x)
IsValueRead items_of parts old new (Err e) = IsStopped old parts e

-- one line is read, with which this part begins and ends
abbrev pub IsLineRead : {X : Type 0} → (X → MaxItem) → MaxPart → Lines → Lines → Result X ReportError → Type 0
IsLineRead item_of p old new result = IsValueRead (λ x. item_of x ∷ []) (p ∷ []) old new result

-- so many steps, and nothing else
abbrev pub just_steps : ℕ → List MaxPart
just_steps n = many_steps n []

-- the parts behind a line that begins an answer, or the best assignment so far
abbrev pub parts_behind : MaxItem → List MaxPart
parts_behind (item.Optimum cost) = part.Values ∷ part.Log ∷ []
parts_behind item.Unsatisfiable = part.Log ∷ []
parts_behind (item.OpenConflicts limit n) = part.Goal ∷ just_steps n ++ part.Best ∷ []
parts_behind (item.Best cost) = part.Values ∷ []
parts_behind i = []

-- the rest of a value is read, whose first line says this, or one of its parts is at fault
abbrev pub IsRestRead : {X : Type 0} → (X → List MaxItem) → MaxItem → Lines → Lines → Result X ReportError → Type 0
IsRestRead items_of i old new (Ok x) = (more : List MaxItem) × (items_of x ≡ i ∷ more) × Takes old new more
IsRestRead items_of i old new (Err e) = IsStopped old (parts_behind i) e

-- something is left behind the end
abbrev pub IsMore : Lines → ReportError → Type 0
IsMore l (At kind line) = FaultAt l [] kind line
IsMore l NoMemory = ⊥
