-- The lines of an answer.
use Rattle.std.specs.Prelude.{ℕ, suc, ◌≡◌, Bool, true, false, List, [], ◌∷◌, ◌++◌, length, map, ⊤}
use Rattle.ps_meaning.specs.Rational.{Rational}
use Rattle.ps_table.specs.declared.event.Event.{Event}
use Rattle.ps_table.specs.declared.event.Event.TheVariants.{Pivot, Priced}
use Rattle.ps_answer.specs.declared.item.Ratio.{Ratio}
use Rattle.ps_answer.specs.declared.item.LineItem.{LineItem}
use Rattle.ps_answer.specs.declared.item.LineItem.TheVariants as line
use Rattle.ps_answer.specs.declared.answer.Weighted.{Weighted}
use Rattle.ps_answer.specs.declared.answer.Model.{Model}
use Rattle.ps_answer.specs.declared.answer.Dual.{Dual}
use Rattle.ps_answer.specs.declared.answer.Cause.{Cause}
use Rattle.ps_answer.specs.declared.answer.Cause.TheVariants.{Pivots, Conflicts, Wide}
use Rattle.ps_answer.specs.declared.answer.Verdict.{Verdict}
use Rattle.ps_answer.specs.declared.answer.Verdict.TheVariants.{Consistent, Inconsistent, Open}
use Rattle.ps_answer.specs.declared.answer.SideAnswer.{SideAnswer}
use Rattle.ps_answer.specs.declared.answer.SideAnswer.TheVariants as side
use Rattle.ps_answer.specs.declared.answer.QueryAnswer.{QueryAnswer}
use Rattle.ps_answer.specs.declared.answer.QueryAnswer.TheVariants as query
use Rattle.ps_answer.specs.declared.answer.QueryPart.{QueryPart}
use Rattle.ps_answer.specs.declared.answer.Answer.{Answer}
use Rattle.ps_answer.specs.Items.{item_line}

-- a fraction as its two numbers
abbrev pub ratio_of : Rational → Ratio
ratio_of q = record { over = q.over; under = q.under }

-- an entry: its weight and its world
abbrev pub entry_item : Weighted → LineItem
entry_item e = line.Entry e.weight e.world

-- an event: the column and the row of a pivot, or a priced world
abbrev pub event_item : Event → LineItem
event_item (Pivot enter leave) = line.PivotLine enter leave
event_item (Priced world) = line.PricedLine world

-- a model: its total and how many worlds, and each of them with its weight
abbrev pub model_items : Model → List LineItem
model_items m = line.ModelHead m.total (length m.worlds) ∷ map entry_item m.worlds

-- a dual: its numbers, its rows, and its steps
abbrev pub dual_items : Dual → List LineItem
dual_items d = line.DualHead d.top d.head (length d.steps) ∷ line.Rows d.rows ∷ map line.StepLine d.steps

-- a trace: how many events, and each of them
abbrev pub trace_items : List Event → List LineItem
trace_items events = line.TraceHead (length events) ∷ map event_item events

-- a cause: the limit, for conflicts with the goal and the steps, or the operation that was refused, with its place and operands
abbrev pub cause_items : Cause → List LineItem
cause_items (Pivots limit) = line.OpenPivots limit ∷ []
cause_items (Conflicts limit goal steps) = line.OpenConflicts limit ∷ line.GoalLine goal ∷ map line.StepLine steps
cause_items (Wide at) = line.OpenWide at.place at.op (ratio_of at.left) (ratio_of at.right) ∷ []

-- a verdict and its model or its dual, or its cause where it is open
abbrev pub verdict_items : Verdict → List LineItem
verdict_items (Consistent m) = line.Consistent ∷ model_items m
verdict_items (Inconsistent d) = line.Inconsistent ∷ dual_items d
verdict_items (Open c) = cause_items c

-- a side and its trace
abbrev pub side_items : Bool → SideAnswer → List Event → List LineItem
side_items upper (side.Bound value m d) trace =
    line.Bound upper (ratio_of value) ∷ (model_items m ++ (dual_items d ++ trace_items trace))
side_items upper (side.Open c) trace = line.OpenSide upper ∷ cause_items c ++ trace_items trace

-- the answer to a query, and the trace of its first phase
abbrev pub query_items : QueryAnswer → List Event → List LineItem
query_items (query.Bounds lower lower_trace upper upper_trace) first =
    line.Bounds ∷ (trace_items first ++ (side_items false lower lower_trace ++ side_items true upper upper_trace))
query_items (query.Impossible d) first = line.Impossible ∷ dual_items d ++ trace_items first
query_items (query.Open c) first = cause_items c ++ trace_items first

-- the parts, numbered from here on
abbrev pub part_items : ℕ → List QueryPart → List LineItem
part_items j [] = []
part_items j (p ∷ ps) = line.Query j ∷ query_items p.answer p.first ++ part_items (suc j) ps

-- what the lines of an answer say
unfoldable pub answer_items : Answer → List LineItem
answer_items a = line.Report ∷ (verdict_items a.verdict ++ (trace_items a.first ++ (part_items 1 a.parts ++ line.End ∷ [])))

-- the lines of an answer
abbrev pub answer_lines : Answer → List (List ℕ)
answer_lines a = map item_line (answer_items a)

-- where conflicts were the cause, there are as many steps as their limit
abbrev pub IsCounted : Cause → Type 0
IsCounted (Conflicts limit goal steps) = length steps ≡ limit
IsCounted (Pivots limit) = ⊤
IsCounted (Wide at) = ⊤

-- where conflicts were the cause of an open verdict, there are as many steps as their limit
abbrev pub IsVerdictCounted : Verdict → Type 0
IsVerdictCounted (Consistent m) = ⊤
IsVerdictCounted (Inconsistent d) = ⊤
IsVerdictCounted (Open c) = IsCounted c

-- where conflicts were the cause of an open side, there are as many steps as their limit
abbrev pub IsSideCounted : SideAnswer → Type 0
IsSideCounted (side.Bound value m d) = ⊤
IsSideCounted (side.Open c) = IsCounted c

-- where conflicts were the cause of an open query, or of an open side of it, there are as many steps as their limit
abbrev pub IsQueryCounted : QueryAnswer → Type 0
IsQueryCounted (query.Bounds lower lower_trace upper upper_trace) = IsSideCounted lower × IsSideCounted upper
IsQueryCounted (query.Impossible d) = ⊤
IsQueryCounted (query.Open c) = IsCounted c

-- in each of these parts, where conflicts were the cause, there are as many steps as their limit
abbrev pub ArePartsCounted : List QueryPart → Type 0
ArePartsCounted [] = ⊤
ArePartsCounted (p ∷ ps) = IsQueryCounted p.answer × ArePartsCounted ps

-- each part that is open for conflicts has as many steps as its limit
pub record IsAnswerCounted (a : Answer) : Type 0 where
  pub verdict : IsVerdictCounted a.verdict
  pub parts : ArePartsCounted a.parts
