use Rattle.std.proofs.Common.{map, take, Ok}
use Rattle.ps_answer.specs.Answers.{entry_item}
use Rattle.ps_report.specs.Parts.{WroteItems}
use Rattle.ps_report.proofs.parts.write_entries.Given as goal

abbrev pub invariant-loop-entry : goal.invariant-loop-entry
invariant-loop-entry g l = WroteItems g.O.Sink l.initial.lines l.lines (Ok tt) (map entry_item (take l.entry-index l.worlds))
