use Rattle.std.proofs.Common.{take, Ok}
use Rattle.ps_answer.specs.Answers.{part_items}
use Rattle.ps_report.specs.Parts.{WroteItems}
use Rattle.ps_report.proofs.queries.write_parts.Given as goal

abbrev pub invariant-loop-i : goal.invariant-loop-i
invariant-loop-i g l = WroteItems g.O.Sink l.initial.lines l.lines (Ok tt) (part_items 1 (take l.i l.parts))
