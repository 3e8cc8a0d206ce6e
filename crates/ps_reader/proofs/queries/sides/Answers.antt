use Rattle.std.proofs.Common.{true, false, refl, sym, ap, subst, Err, ◌∙◌, ◌∷◌, ◌++◌}
use Rattle.std.specs.Prelude.{[]}
use Rattle.std.proofs.lemmas.Result.{err_from_is_err_and}
use Rattle.ps_answer.specs.declared.item.LineItem.TheVariants as line
use Rattle.ps_answer.specs.declared.part.Part.TheVariants.{ATrace, ASide}
use Rattle.ps_answer.specs.Answers.{trace_items}
use Rattle.ps_reader.specs.Reports.{HasRest, IsReadBehind, traced_items, query_part_items}
use Rattle.ps_reader.proofs.Taking.{takes_both}
use Rattle.ps_reader.proofs.Passing.{both_pass, trace_passes, one_side_passes}
use Rattle.ps_reader.proofs.Rests.{stopped_after, stopped_at}
use Rattle.ps_reader.proofs.queries.sides.Goals as goal

pub returns-in_err-lower-clause-part : goal.returns-in_err-lower-clause-part
returns-in_err-lower-clause-part c =
    let f = err_from_is_err_and c.from_residual-in_err-lower.result c.from_residual-in_err-lower.ensures.1 in
    subst (λ r. IsReadBehind (HasRest line.Bounds query_part_items) (ATrace ∷ ASide false ∷ ASide true ∷ []) c.args.lines.now c.side.new.lines r) (sym (f.1 ∙ ap Err f.2))
    (stopped_at c.args.lines.now c.trace.new.lines (ATrace ∷ []) (ASide false ∷ []) (ASide true ∷ []) (trace_items c.in_ok-first.first) c.in_err-lower.field-0.0 c.in_ok-first.ensures (trace_passes c.in_ok-first.first) c.in_err-lower.ensures.side)

pub returns-in_err-upper-clause-part : goal.returns-in_err-upper-clause-part
returns-in_err-upper-clause-part c =
    let f = err_from_is_err_and c.from_residual-in_err-upper.result c.from_residual-in_err-upper.ensures.1 in
    subst (λ r. IsReadBehind (HasRest line.Bounds query_part_items) (ATrace ∷ ASide false ∷ ASide true ∷ []) c.args.lines.now c.side-2.new.lines r) (sym (f.1 ∙ ap Err f.2))
    (stopped_after c.args.lines.now c.side.new.lines (ATrace ∷ ASide false ∷ []) (ASide true ∷ []) ((trace_items c.in_ok-first.first) ++ (traced_items false (c.in_ok-lower.lower, c.in_ok-lower.lower_trace))) c.in_err-upper.field-0.0 (takes_both c.args.lines.now c.trace.new.lines c.side.new.lines (trace_items c.in_ok-first.first) (traced_items false (c.in_ok-lower.lower, c.in_ok-lower.lower_trace)) c.in_ok-first.ensures c.in_ok-lower.ensures.side)
    (both_pass (ATrace ∷ []) (ASide false ∷ []) (trace_items c.in_ok-first.first) (traced_items false (c.in_ok-lower.lower, c.in_ok-lower.lower_trace)) (trace_passes c.in_ok-first.first) (one_side_passes false (c.in_ok-lower.lower, c.in_ok-lower.lower_trace) c.in_ok-lower.ensures.counted)) c.in_err-upper.ensures.side)

pub returns-clause-part : goal.returns-clause-part
returns-clause-part c = (_, refl, takes_both c.args.lines.now c.trace.new.lines c.side-2.new.lines (trace_items c.in_ok-first.first) ((traced_items false (c.in_ok-lower.lower, c.in_ok-lower.lower_trace)) ++ (traced_items true (c.in_ok-upper.upper, c.in_ok-upper.upper_trace))) c.in_ok-first.ensures (takes_both c.trace.new.lines c.side.new.lines c.side-2.new.lines (traced_items false (c.in_ok-lower.lower, c.in_ok-lower.lower_trace)) (traced_items true (c.in_ok-upper.upper, c.in_ok-upper.upper_trace)) c.in_ok-lower.ensures.side c.in_ok-upper.ensures.side))
