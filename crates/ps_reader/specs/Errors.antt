-- What an error of the reader of reports tells.
use Rattle.std.specs.Prelude.{ℕ, ◌≡◌, ◌⊎◌, List, [], ◌∷◌, Some, ⊤}
use Rattle.std.specs.List.{AllByRecursion}
use Rattle.ps_answer.specs.declared.item.LineItem.{LineItem}
use Rattle.ps_answer.specs.declared.item.LineItem.TheVariants.{Entry, StepLine, PivotLine, PricedLine, Query}
use Rattle.ps_answer.specs.declared.part.Part.{Part}
use Rattle.ps_answer.specs.declared.error.ReportError.{ReportError}
use Rattle.ps_answer.specs.declared.error.ReportError.TheVariants.{At, NoMemory}
use Rattle.ps_answer.specs.Items.{IsWithin}
use Rattle.ps_answer.specs.ExpectedParts.{at_start, due_behind}
use Rattle.ps_answer.specs.Faults.{BeginWith, IsFirstFault}
use Rattle.ps_reader.specs.Lines.{IsLackingLine}

-- what is kept in a list: a world, a step, an event or a query
abbrev pub IsKept : LineItem → Type 0
IsKept (Entry weight world) = ⊤
IsKept (StepLine s) = ⊤
IsKept (PivotLine enter leave) = ⊤
IsKept (PricedLine world) = ⊤
IsKept (Query number) = ⊤
IsKept i = ⊥

-- the first line says what is kept in a list
pub record BeginsKept (bytes : List ℕ) : Type 0 where
  pub item : LineItem
  pub rest : List ℕ
  pub line : BeginWith bytes (item ∷ []) rest
  pub kept : IsKept item

-- where these parts are due, memory is taken for the first line: for what it says, or to keep it
abbrev pub IsLacking : List Part → List ℕ → Type 0
IsLacking [] bytes = ⊥
IsLacking (p ∷ due) bytes = IsLackingLine p bytes ⊎ BeginsKept bytes

-- where these parts are due, lines before one are due and within the limits, and for this one memory is taken
pub record LacksAt (due : List Part) (bytes : List ℕ) : Type 0 where
  pub items : List LineItem
  pub rest : List ℕ
  pub next : List Part
  pub before : BeginWith bytes items rest
  pub within : AllByRecursion IsWithin items
  pub due_is : due_behind due items ≡ Some next
  pub takes : IsLacking next rest

-- the first line at fault; or a line for which memory lacks, and none before it is at fault
abbrev pub TellsFault : List ℕ → ReportError → Type 0
TellsFault bytes (At kind line) = IsFirstFault bytes kind line
TellsFault bytes NoMemory = LacksAt at_start bytes
