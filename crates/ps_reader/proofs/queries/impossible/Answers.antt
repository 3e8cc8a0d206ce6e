use Rattle.std.proofs.Common.{refl, sym, ap, subst, Err, ◌∙◌, ◌∷◌}
use Rattle.std.specs.Prelude.{[]}
use Rattle.std.proofs.lemmas.Result.{err_from_is_err_and}
use Rattle.ps_answer.specs.declared.item.LineItem.TheVariants as line
use Rattle.ps_answer.specs.declared.part.Part.TheVariants.{ADual, ATrace}
use Rattle.ps_answer.specs.Answers.{dual_items, trace_items}
use Rattle.ps_reader.specs.Reports.{HasRest, IsReadBehind, query_part_items}
use Rattle.ps_reader.proofs.Taking.{takes_both}
use Rattle.ps_reader.proofs.Passing.{dual_passes}
use Rattle.ps_reader.proofs.Rests.{stopped_after, told_err, told_ok}
use Rattle.ps_reader.proofs.queries.impossible.Goals as goal

pub returns-in_err-first-clause-part : goal.returns-in_err-first-clause-part
returns-in_err-first-clause-part c =
    let f = err_from_is_err_and c.from_residual-in_err-first.result c.from_residual-in_err-first.ensures.1 in
    subst (λ r. IsReadBehind (HasRest line.Impossible query_part_items) (ADual ∷ ATrace ∷ []) c.args.lines.now c.trace.new.lines r) (sym (f.1 ∙ ap Err f.2))
    (stopped_after c.args.lines.now c.dual.new.lines (ADual ∷ []) (ATrace ∷ []) (dual_items c.in_ok-dual.dual) c.in_err-first.field-0.0
    (told_ok dual_items (ADual ∷ []) c.args.lines.now c.dual.new.lines c.dual.result c.in_ok-dual.dual c.in_ok-dual.was c.dual.ensures) (dual_passes c.in_ok-dual.dual)
    (told_err trace_items (ATrace ∷ []) c.dual.new.lines c.trace.new.lines c.trace.result c.in_err-first.field-0.0 c.in_err-first.was c.trace.ensures))

pub returns-clause-part : goal.returns-clause-part
returns-clause-part c = (_, refl, takes_both c.args.lines.now c.dual.new.lines c.trace.new.lines (dual_items c.in_ok-dual.dual) (trace_items c.in_ok-first.first) (told_ok dual_items (ADual ∷ []) c.args.lines.now c.dual.new.lines c.dual.result c.in_ok-dual.dual c.in_ok-dual.was c.dual.ensures) (told_ok trace_items (ATrace ∷ []) c.dual.new.lines c.trace.new.lines c.trace.result c.in_ok-first.first c.in_ok-first.was c.trace.ensures))
