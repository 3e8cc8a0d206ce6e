use Rattle.std.proofs.Common.{refl, sym, ap, subst, Err, ◌∙◌, ◌∷◌}
use Rattle.std.specs.Prelude.{[]}
use Rattle.std.proofs.lemmas.Result.{err_from_is_err_and}
use Rattle.ps_answer.specs.declared.item.LineItem.TheVariants as line
use Rattle.ps_answer.specs.declared.part.Part.TheVariants.{ACause, ATrace}
use Rattle.ps_answer.specs.Answers.{trace_items, cause_items}
use Rattle.ps_reader.specs.Reports.{HasRest, IsReadBehind, traced_items}
use Rattle.ps_reader.proofs.Taking.{takes_both}
use Rattle.ps_reader.proofs.Passing.{cause_passes}
use Rattle.ps_reader.proofs.Rests.{stopped_after}
use Rattle.ps_reader.proofs.queries.open_side.Goals as goal

pub returns-in_err-trace-clause-side : goal.returns-in_err-trace-clause-side
returns-in_err-trace-clause-side c = λ upper.
    let f = err_from_is_err_and c.from_residual-in_err-trace.result c.from_residual-in_err-trace.ensures.1 in
    subst (λ r. IsReadBehind (HasRest (line.OpenSide upper) (traced_items upper)) (ACause ∷ ATrace ∷ []) c.args.lines.now c.trace.new.lines r) (sym (f.1 ∙ ap Err f.2))
    (stopped_after c.args.lines.now c.cause.new.lines (ACause ∷ []) (ATrace ∷ []) (cause_items c.in_ok-cause.cause) c.in_err-trace.field-0.0 c.in_ok-cause.ensures.cause (cause_passes c.in_ok-cause.cause c.in_ok-cause.ensures.counted) c.in_err-trace.ensures)

pub returns-clause-side : goal.returns-clause-side
returns-clause-side c = λ upper. (_, refl, takes_both c.args.lines.now c.cause.new.lines c.trace.new.lines (cause_items c.in_ok-cause.cause) (trace_items c.in_ok-trace.trace) c.in_ok-cause.ensures.cause c.in_ok-trace.ensures)
