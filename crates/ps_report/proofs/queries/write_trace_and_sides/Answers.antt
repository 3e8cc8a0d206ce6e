use Rattle.std.proofs.Common.{rules}
use Rattle.std.specs.Result.{IsErr}
use Rattle.ps_answer.specs.Answers.{trace_items}
use Rattle.ps_report.specs.Reports.{both_items}
use Rattle.ps_report.proofs.Sequence.{items_then, items_stop, short_first, short_last}
use Rattle.ps_report.proofs.queries.write_trace_and_sides.Goals as goal

pub returns : goal.returns
returns g c = items_then g.O.Sink _ _ _ _ (trace_items c.args.first.now) (both_items c.args.sides.now) (rw c.in_ok-write_trace.was at c.write_trace.ensures) c.write_sides.ensures

pub write_trace-requires-clause-short : goal.write_trace-requires-clause-short
write_trace-requires-clause-short g c = short_first (trace_items c.args.first.now) (both_items c.args.sides.now) c.requires.short

pub write_sides-requires-clause-short : goal.write_sides-requires-clause-short
write_sides-requires-clause-short g c = short_last (trace_items c.args.first.now) (both_items c.args.sides.now) c.requires.short

pub returns-in_err-write_trace : goal.returns-in_err-write_trace
returns-in_err-write_trace g c =
    let failed : IsErr c.from_residual.result = search rules in
    items_stop g.O.Sink c.args.lines.now c.write_trace.new.lines _ c.from_residual.result (trace_items c.args.first.now) (both_items c.args.sides.now) (rw c.in_err-write_trace.was at c.write_trace.ensures) failed
