use Rattle.std.proofs.Common.{rules}
use Rattle.std.specs.Result.{IsErr}
use Rattle.ps_answer.specs.Answers.{event_item}
use Rattle.ps_report.proofs.Sequence.{short_at, items_fault}
use Rattle.ps_report.proofs.parts.write_events.Goals as goal

pub write_event-requires-clause-short : goal.write_event-requires-clause-short
write_event-requires-clause-short g c = short_at event_item c.args.trace.now c.loop-event.event-index c.event-item.result c.event-item.result c.loop-event-test.true c.event-item.is c.requires.short

pub returns-in_err-write_event : goal.returns-in_err-write_event
returns-in_err-write_event g c =
    let failed : IsErr c.from_residual.result = search rules in
    items_fault g.O.Sink event_item c.args.trace.now c.loop-event.event-index c.event-item.result c.event-item.result c.loop-event-test.true c.event-item.is c.args.lines.now c.loop-event.lines c.write_event.new.lines c.loop-event.invariant _ c.from_residual.result
    (rw c.in_err-write_event.was at c.write_event.ensures) failed
