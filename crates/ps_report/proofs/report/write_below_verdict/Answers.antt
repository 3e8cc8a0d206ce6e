use Rattle.std.proofs.Common.{rules}
use Rattle.std.specs.Result.{IsErr}
use Rattle.std.proofs.Common.{[], ◌∷◌, ◌++◌}
use Rattle.ps_answer.specs.declared.item.LineItem.TheVariants as line
use Rattle.ps_answer.specs.Answers.{trace_items, part_items}
use Rattle.ps_report.proofs.Sequence.{items_then, items_stop, short_first, short_last}
use Rattle.ps_report.proofs.report.write_below_verdict.Goals as goal

pub returns : goal.returns
returns g c = items_then g.O.Sink _ _ _ _ (trace_items c.args.answer.now.first) (part_items 1 c.args.answer.now.parts ++ line.End ∷ []) (rw (c.in_ok-write_trace.was, c.as_slice.ensures) at c.write_trace.ensures) (rw c.as_slice-2.ensures at c.write_parts_and_end.ensures)

pub write_trace-requires-clause-short : goal.write_trace-requires-clause-short
write_trace-requires-clause-short g c = rw c.as_slice.ensures (short_first (trace_items c.args.answer.now.first) (part_items 1 c.args.answer.now.parts ++ line.End ∷ []) c.requires.short)

pub write_parts_and_end-requires-clause-short : goal.write_parts_and_end-requires-clause-short
write_parts_and_end-requires-clause-short g c = rw c.as_slice-2.ensures (short_last (trace_items c.args.answer.now.first) (part_items 1 c.args.answer.now.parts ++ line.End ∷ []) c.requires.short)

pub returns-in_err-write_trace : goal.returns-in_err-write_trace
returns-in_err-write_trace g c =
    let failed : IsErr c.from_residual.result = search rules in
    items_stop g.O.Sink c.args.lines.now c.write_trace.new.lines _ c.from_residual.result (trace_items c.args.answer.now.first) (part_items 1 c.args.answer.now.parts ++ line.End ∷ []) (rw (c.in_err-write_trace.was, c.as_slice.ensures) at c.write_trace.ensures) failed
