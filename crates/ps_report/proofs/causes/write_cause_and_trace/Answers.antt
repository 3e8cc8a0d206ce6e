use Rattle.std.proofs.Common.{rules}
use Rattle.std.specs.Result.{IsErr}
use Rattle.ps_answer.specs.Answers.{cause_items, trace_items}
use Rattle.ps_report.proofs.Sequence.{items_then, items_stop, short_first, short_last}
use Rattle.ps_report.proofs.causes.write_cause_and_trace.Goals as goal

pub returns : goal.returns
returns g c = items_then g.O.Sink _ _ _ _ (cause_items c.args.cause.now) (trace_items c.args.trace.now) (rw c.in_ok-write_cause.was at c.write_cause.ensures) c.write_trace.ensures

pub write_cause-requires-clause-short : goal.write_cause-requires-clause-short
write_cause-requires-clause-short g c = short_first (cause_items c.args.cause.now) (trace_items c.args.trace.now) c.requires.short

pub write_trace-requires-clause-short : goal.write_trace-requires-clause-short
write_trace-requires-clause-short g c = short_last (cause_items c.args.cause.now) (trace_items c.args.trace.now) c.requires.short

pub returns-in_err-write_cause : goal.returns-in_err-write_cause
returns-in_err-write_cause g c =
    let failed : IsErr c.from_residual.result = search rules in
    items_stop g.O.Sink c.args.lines.now c.write_cause.new.lines _ c.from_residual.result (cause_items c.args.cause.now) (trace_items c.args.trace.now) (rw c.in_err-write_cause.was at c.write_cause.ensures) failed
