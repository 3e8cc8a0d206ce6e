use Rattle.std.proofs.Common.{◌∙◌, ap, Err, arith, map}
use Rattle.std.proofs.lemmas.Result.{err_from_is_err_and}
use Rattle.ps_answer.specs.Answers.{event_item}
use Rattle.ps_answer.specs.declared.part.Part.TheVariants.{AnEvent}
use Rattle.ps_answer.specs.declared.error.ReportError.TheVariants.{NoMemory}
use Rattle.ps_reader.specs.Taken.{repeated}
use Rattle.ps_reader.proofs.Taking.{takes_push, stopped_within, lack_kept}
use Rattle.ps_reader.proofs.Values.{value_stopped, one_longer, event_passes, kept_event}
use Rattle.ps_reader.proofs.traces.events.Goals as goal

pub returns-in_err-event-clause-events : goal.returns-in_err-event-clause-events
returns-in_err-event-clause-events c =
    let f = err_from_is_err_and c.from_residual.result c.from_residual.ensures.1 in
    value_stopped (map event_item) (repeated c.args.count AnEvent) c.args.lines.now c.event.new.lines c.in_err-event.field-0.0 c.from_residual.result
    (stopped_within event_item AnEvent event_passes c.args.lines.now c.loop.lines c.loop.events c.args.count c.in_err-event.field-0.0
    c.loop.invariant.taken (omega (arith, c.loop-test.true, c.loop.invariant.counted)) c.in_err-event.ensures)
    (f.1 ∙ ap Err f.2)

pub returns-in_err-push-clause-events : goal.returns-in_err-push-clause-events
returns-in_err-push-clause-events c =
    let f = err_from_is_err_and c.from_residual-in_err-push.result c.from_residual-in_err-push.ensures.1 in
    value_stopped (map event_item) (repeated c.args.count AnEvent) c.args.lines.now c.event.new.lines NoMemory c.from_residual-in_err-push.result
    (stopped_within event_item AnEvent event_passes c.args.lines.now c.loop.lines c.loop.events c.args.count NoMemory c.loop.invariant.taken (omega (arith, c.loop-test.true, c.loop.invariant.counted))
    (lack_kept c.loop.lines c.event.new.lines AnEvent (event_item c.in_ok-event.field-0) c.in_ok-event.ensures (kept_event c.in_ok-event.field-0)))
    (f.1 ∙ ap Err f.2)

pub loop-preserved : goal.loop-preserved
loop-preserved c = record {
  taken = takes_push event_item c.args.lines.now c.loop.lines c.event.new.lines c.loop.events c.push.new.self c.in_ok-event.field-0
      c.loop.invariant.taken c.in_ok-event.ensures c.in_ok-push.ensures.ok;
  counted = one_longer c.loop.events c.push.new.self c.in_ok-event.field-0 c.loop.counter c.in_ok-push.ensures.ok c.loop.invariant.counted;
}
