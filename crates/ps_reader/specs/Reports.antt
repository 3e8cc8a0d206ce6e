-- What is read of a report behind a first line.
use Rattle.std.specs.Prelude.{ℕ, ◌≡◌, ◌≤◌, Bool, true, false, List, [], ◌∷◌, ◌++◌, Result, Ok, Err, ⊤}
use Rattle.ps_table.specs.declared.event.Event.{Event}
use Rattle.ps_answer.specs.declared.item.LineItem.{LineItem}
use Rattle.ps_answer.specs.declared.item.LineItem.TheVariants as line
use Rattle.ps_answer.specs.declared.part.Part.{Part}
use Rattle.ps_answer.specs.declared.part.Part.TheVariants.{AModel, ADual, AStep, AGoal, ACause, ATrace, ASide, AQuery}
use Rattle.ps_answer.specs.declared.error.ReportError.{ReportError}
use Rattle.ps_answer.specs.Items.{IsProper, IsWithin}
use Rattle.ps_answer.specs.declared.limits.TheConstants.{MOST_QUERIES}
use Rattle.ps_answer.specs.declared.answer.SideAnswer.{SideAnswer}
use Rattle.ps_answer.specs.declared.answer.QueryPart.{QueryPart}
use Rattle.ps_answer.specs.Answers.{side_items, query_items, part_items, IsSideCounted, IsQueryCounted}
use Rattle.ps_reader.specs.declared.lines.Lines.{Lines}
use Rattle.ps_reader.specs.Taken.{Takes, IsStopped, IsValueRead, repeated}

-- the first line of a value says this, and these are its other lines
abbrev pub HasRest : {X : Type 0} → LineItem → (X → List LineItem) → X → List LineItem → Type 0
HasRest i items_of x more = items_of x ≡ i ∷ more

-- the rest of a value is read, whose parts are these, or one of them is at fault
abbrev pub IsReadBehind : {X : Type 0} → (X → List LineItem → Type 0) → List Part → Lines → Lines → Result X ReportError → Type 0
IsReadBehind IsRest parts old new (Ok x) = (more : List LineItem) × IsRest x more × Takes old new more
IsReadBehind IsRest parts old new (Err e) = IsStopped old parts e

-- the parts behind the first line of a verdict, a cause, a side or a query's answer
abbrev pub parts_behind : LineItem → List Part
parts_behind line.Consistent = AModel ∷ []
parts_behind line.Inconsistent = ADual ∷ []
parts_behind (line.OpenConflicts limit) = AGoal ∷ repeated limit AStep
parts_behind (line.Bound upper value) = AModel ∷ ADual ∷ ATrace ∷ []
parts_behind (line.OpenSide upper) = ACause ∷ ATrace ∷ []
parts_behind line.Bounds = ATrace ∷ ASide false ∷ ASide true ∷ []
parts_behind line.Impossible = ADual ∷ ATrace ∷ []
parts_behind i = []

-- the rest of a value is read, whose first line says this
abbrev pub IsRestRead : {X : Type 0} → LineItem → (X → List LineItem) → Lines → Lines → Result X ReportError → Type 0
IsRestRead i items_of old new result = IsReadBehind (HasRest i items_of) (parts_behind i) old new result

-- a line that says what may be said, within the limits
pub record IsGood (i : LineItem) : Type 0 where
  pub proper : IsProper i
  pub within : IsWithin i

-- a side with its trace
abbrev pub traced_items : Bool → SideAnswer × List Event → List LineItem
traced_items upper s = side_items upper s.0 s.1

-- a side is read with its trace, or one of its parts is at fault
abbrev pub IsSideRead : Bool → Lines → Lines → Result (SideAnswer × List Event) ReportError → Type 0
IsSideRead upper old new result = IsValueRead (traced_items upper) (ASide upper ∷ []) old new result

-- the rest of a side is read, lower and upper alike
abbrev pub IsSideRest : (Bool → LineItem) → Lines → Lines → Result (SideAnswer × List Event) ReportError → Type 0
IsSideRest first old new result = (upper : Bool) → IsRestRead (first upper) (traced_items upper) old new result

-- a side that is open for conflicts has as many steps as their limit
abbrev pub IsSideTold : SideAnswer × List Event → Type 0
IsSideTold s = IsSideCounted s.0

-- a query's answer with the trace of its first phase
abbrev pub query_part_items : QueryPart → List LineItem
query_part_items p = query_items p.answer p.first

-- the rest of an open answer is read, whose cause begins so: the parts of the cause, and a trace
abbrev pub IsOpenRest : LineItem → Lines → Lines → Result QueryPart ReportError → Type 0
IsOpenRest i old new result = IsReadBehind (HasRest i query_part_items) (parts_behind i ++ ATrace ∷ []) old new result

-- an answer to a query that is open for conflicts has as many steps as their limit, and so has each side that is
abbrev pub IsPartTold : QueryPart → Type 0
IsPartTold p = IsQueryCounted p.answer

-- the parts from the first on, and the line that ends a report
abbrev pub parts_and_end_items : List QueryPart → List LineItem
parts_and_end_items ps = part_items 1 ps ++ line.End ∷ []

-- the line of the query of this number, or where there is none of the end
abbrev pub next_items : ℕ → Bool → List LineItem
next_items j true = line.Query j ∷ []
next_items j false = line.End ∷ []

-- whether the query of this number begins is read off its line or the end's, or that line is at fault
abbrev pub IsNextRead : ℕ → Lines → Lines → Result Bool ReportError → Type 0
IsNextRead j old new result = IsValueRead (next_items j) (AQuery j ∷ []) old new result

-- the number of a query that begins is within the limit
abbrev pub IsNumberWithin : ℕ → Bool → Type 0
IsNumberWithin j true = j ≤ MOST_QUERIES
IsNumberWithin j false = ⊤
