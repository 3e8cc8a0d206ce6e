-- The lines of queries, and of an answer below its first line.
use Rattle.std.specs.Prelude.{ℕ, true, false, List, [], ◌∷◌, ◌++◌}
use Rattle.ps_table.specs.declared.event.Event.{Event}
use Rattle.ps_answer.specs.declared.answer.Dual.{Dual}
use Rattle.ps_answer.specs.declared.answer.QueryPart.{QueryPart}
use Rattle.ps_answer.specs.declared.answer.Answer.{Answer}
use Rattle.ps_answer.specs.declared.item.LineItem.{LineItem}
use Rattle.ps_answer.specs.declared.item.LineItem.TheVariants as line
use Rattle.ps_answer.specs.Answers.{side_items, trace_items, query_items, part_items, verdict_items}
use Rattle.ps_report.specs.declared.queries.Sides.{Sides}
use Rattle.ps_report.specs.Parts.{refuted_items}

-- the lines of the two sides of a query
abbrev pub both_items : Sides → List LineItem
both_items s = side_items false s.lower.now s.lower_trace.now ++ side_items true s.upper.now s.upper_trace.now

-- the lines of a query's first phase and of its two sides
abbrev pub run_items : List Event → Sides → List LineItem
run_items first s = trace_items first ++ both_items s

-- the lines of a query that has two sides
abbrev pub bounds_items : List Event → Sides → List LineItem
bounds_items first s = line.Bounds ∷ run_items first s

-- the lines of a query whose evidence is impossible
abbrev pub impossible_items : Dual → List Event → List LineItem
impossible_items d first = line.Impossible ∷ refuted_items d first

-- the lines of a numbered query
abbrev pub numbered_items : ℕ → QueryPart → List LineItem
numbered_items number p = line.Query number ∷ query_items p.answer p.first

-- the lines of an answer below its verdict
abbrev pub below_verdict : Answer → List LineItem
below_verdict a = trace_items a.first ++ (part_items 1 a.parts ++ line.End ∷ [])

-- the lines of an answer below its first line
abbrev pub below_head : Answer → List LineItem
below_head a = verdict_items a.verdict ++ below_verdict a
