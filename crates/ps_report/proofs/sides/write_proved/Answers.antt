use Rattle.std.proofs.Common.{rules}
use Rattle.std.specs.Result.{IsErr}
use Rattle.std.proofs.Common.{◌++◌}
use Rattle.ps_answer.specs.Answers.{model_items, dual_items, trace_items}
use Rattle.ps_report.proofs.Sequence.{items_then, items_stop, short_first, short_last}
use Rattle.ps_report.proofs.sides.write_proved.Goals as goal

pub returns : goal.returns
returns g c = items_then g.O.Sink _ _ _ _ (model_items c.args.model.now) (dual_items c.args.dual.now ++ trace_items c.args.trace.now) (rw c.in_ok-write_model.was at c.write_model.ensures) c.write_dual_and_trace.ensures

pub write_model-requires-clause-short : goal.write_model-requires-clause-short
write_model-requires-clause-short g c = short_first (model_items c.args.model.now) (dual_items c.args.dual.now ++ trace_items c.args.trace.now) c.requires.short

pub write_dual_and_trace-requires-clause-short : goal.write_dual_and_trace-requires-clause-short
write_dual_and_trace-requires-clause-short g c = short_last (model_items c.args.model.now) (dual_items c.args.dual.now ++ trace_items c.args.trace.now) c.requires.short

pub returns-in_err-write_model : goal.returns-in_err-write_model
returns-in_err-write_model g c =
    let failed : IsErr c.from_residual.result = search rules in
    items_stop g.O.Sink c.args.lines.now c.write_model.new.lines _ c.from_residual.result (model_items c.args.model.now) (dual_items c.args.dual.now ++ trace_items c.args.trace.now) (rw c.in_err-write_model.was at c.write_model.ensures) failed
