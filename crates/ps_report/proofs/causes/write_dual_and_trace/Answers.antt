use Rattle.std.proofs.Common.{rules}
use Rattle.std.specs.Result.{IsErr}
use Rattle.ps_answer.specs.Answers.{dual_items, trace_items}
use Rattle.ps_report.proofs.Sequence.{items_then, items_stop, short_first, short_last}
use Rattle.ps_report.proofs.causes.write_dual_and_trace.Goals as goal

pub returns : goal.returns
returns g c = items_then g.O.Sink _ _ _ _ (dual_items c.args.dual.now) (trace_items c.args.trace.now) (rw c.in_ok-write_dual.was at c.write_dual.ensures) c.write_trace.ensures

pub write_dual-requires-clause-short : goal.write_dual-requires-clause-short
write_dual-requires-clause-short g c = short_first (dual_items c.args.dual.now) (trace_items c.args.trace.now) c.requires.short

pub write_trace-requires-clause-short : goal.write_trace-requires-clause-short
write_trace-requires-clause-short g c = short_last (dual_items c.args.dual.now) (trace_items c.args.trace.now) c.requires.short

pub returns-in_err-write_dual : goal.returns-in_err-write_dual
returns-in_err-write_dual g c =
    let failed : IsErr c.from_residual.result = search rules in
    items_stop g.O.Sink c.args.lines.now c.write_dual.new.lines _ c.from_residual.result (dual_items c.args.dual.now) (trace_items c.args.trace.now) (rw c.in_err-write_dual.was at c.write_dual.ensures) failed
