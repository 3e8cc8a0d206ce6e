use Rattle.std.proofs.Common.{map, take, Ok}
use Rattle.ps_answer.specs.Answers.{event_item}
use Rattle.ps_report.specs.Parts.{WroteItems}
use Rattle.ps_report.proofs.parts.write_events.Given as goal

abbrev pub invariant-loop-event : goal.invariant-loop-event
invariant-loop-event g l = WroteItems g.O.Sink l.initial.lines l.lines (Ok tt) (map event_item (take l.event-index l.trace))
