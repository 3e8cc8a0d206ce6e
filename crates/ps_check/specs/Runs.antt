-- The parts that are due, as they are kept: in runs of one part, the next one last.
use Rattle.std.specs.Prelude.{◌≡◌, List, [], ◌∷◌, Option, Some, None}
use Rattle.ps_answer.specs.declared.item.LineItem.{LineItem}
use Rattle.ps_answer.specs.declared.part.Part.{Part}
use Rattle.ps_answer.specs.declared.part.Part.TheVariants.{AnAnswer, ATrace}
use Rattle.ps_answer.specs.ExpectedParts.{many, behind}
use Rattle.ps_check.specs.declared.due.Run.{Run}

-- the parts of runs, and behind them others
abbrev pub parts_before : List Part → List Run → List Part
parts_before due [] = due
parts_before due (r ∷ rs) = parts_before (many r.count r.part due) rs

-- the parts of runs
abbrev pub parts_of : List Run → List Part
parts_of runs = parts_before [] runs

-- the part that is due next
abbrev pub first_due : List Part → Option Part
first_due [] = None
first_due (p ∷ due) = Some p

-- the part that was due next was taken, or none was due
abbrev pub IsTaken : List Part → List Part → Option Part → Type 0
IsTaken old new None = old ≡ []
IsTaken old new (Some p) = old ≡ p ∷ new

-- behind a cause that answers a query a trace is due
abbrev pub traced : Part → List Part → List Part
traced AnAnswer due = ATrace ∷ due
traced p due = due

-- these parts are due behind a line that says this, if it is one of the part that was due next
pub record IsBehind (item : LineItem) (old new : List Part) : Type 0 where
  pub behind : (p : Part) (due next : List Part) → old ≡ p ∷ due → behind p item due ≡ Some next → new ≡ next
