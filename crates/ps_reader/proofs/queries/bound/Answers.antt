use Rattle.std.proofs.Common.{sym, ap, subst, Err, ◌∙◌, ◌∷◌, ◌++◌}
use Rattle.std.specs.Prelude.{[]}
use Rattle.std.proofs.lemmas.Result.{err_from_is_err_and}
use Rattle.ps_answer.specs.declared.item.LineItem.TheVariants as line
use Rattle.ps_answer.specs.declared.part.Part.TheVariants.{AModel, ADual, ATrace}
use Rattle.ps_answer.specs.Answers.{model_items, dual_items, trace_items}
use Rattle.ps_reader.specs.Reports.{HasRest, IsReadBehind, traced_items}
use Rattle.ps_reader.proofs.Taking.{takes_both}
use Rattle.ps_reader.proofs.Passing.{both_pass, model_passes, dual_passes}
use Rattle.ps_reader.proofs.Rests.{stopped_after, stopped_at}
use Rattle.ps_reader.proofs.queries.bound.Goals as goal

pub returns-in_err-dual-clause-side : goal.returns-in_err-dual-clause-side
returns-in_err-dual-clause-side c = λ upper.
    let f = err_from_is_err_and c.from_residual-in_err-dual.result c.from_residual-in_err-dual.ensures.1 in
    subst (λ r. IsReadBehind (HasRest (line.Bound upper c.args.value.now) (traced_items upper)) (AModel ∷ ADual ∷ ATrace ∷ []) c.args.lines.now c.dual.new.lines r) (sym (f.1 ∙ ap Err f.2))
    (stopped_at c.args.lines.now c.model.new.lines (AModel ∷ []) (ADual ∷ []) (ATrace ∷ []) (model_items c.in_ok-model.model) c.in_err-dual.field-0.0 c.in_ok-model.ensures (model_passes c.in_ok-model.model) c.in_err-dual.ensures)

pub returns-in_err-trace-clause-side : goal.returns-in_err-trace-clause-side
returns-in_err-trace-clause-side c = λ upper.
    let f = err_from_is_err_and c.from_residual-in_err-trace.result c.from_residual-in_err-trace.ensures.1 in
    subst (λ r. IsReadBehind (HasRest (line.Bound upper c.args.value.now) (traced_items upper)) (AModel ∷ ADual ∷ ATrace ∷ []) c.args.lines.now c.trace.new.lines r) (sym (f.1 ∙ ap Err f.2))
    (stopped_after c.args.lines.now c.dual.new.lines (AModel ∷ ADual ∷ []) (ATrace ∷ []) ((model_items c.in_ok-model.model) ++ (dual_items c.in_ok-dual.dual)) c.in_err-trace.field-0.0 (takes_both c.args.lines.now c.model.new.lines c.dual.new.lines (model_items c.in_ok-model.model) (dual_items c.in_ok-dual.dual) c.in_ok-model.ensures c.in_ok-dual.ensures)
    (both_pass (AModel ∷ []) (ADual ∷ []) (model_items c.in_ok-model.model) (dual_items c.in_ok-dual.dual) (model_passes c.in_ok-model.model) (dual_passes c.in_ok-dual.dual)) c.in_err-trace.ensures)

pub returns-clause-side : goal.returns-clause-side
returns-clause-side c = λ upper. (
  (model_items c.in_ok-model.model) ++ ((dual_items c.in_ok-dual.dual) ++ (trace_items c.in_ok-trace.trace)),
  ap (λ q. line.Bound upper q ∷ ((model_items c.in_ok-model.model) ++ ((dual_items c.in_ok-dual.dual) ++ (trace_items c.in_ok-trace.trace)))) c.fraction-value.ensures,
  takes_both c.args.lines.now c.model.new.lines c.trace.new.lines (model_items c.in_ok-model.model) ((dual_items c.in_ok-dual.dual) ++ (trace_items c.in_ok-trace.trace)) c.in_ok-model.ensures (takes_both c.model.new.lines c.dual.new.lines c.trace.new.lines (dual_items c.in_ok-dual.dual) (trace_items c.in_ok-trace.trace) c.in_ok-dual.ensures c.in_ok-trace.ensures),
)
