use Rattle.std.proofs.Common.{refl, sym, ap, subst, Err, ◌∙◌, ◌∷◌}
use Rattle.std.specs.Prelude.{[]}
use Rattle.std.proofs.lemmas.Result.{err_from_is_err_and}
use Rattle.ps_answer.specs.declared.item.LineItem.TheVariants as line
use Rattle.ps_answer.specs.declared.part.Part.TheVariants.{AQuery}
use Rattle.ps_answer.specs.declared.error.ReportError.TheVariants.{NoMemory}
use Rattle.ps_reader.proofs.Taking.{lack_kept}
use Rattle.ps_reader.specs.Taken.{Takes, IsValueRead}
use Rattle.ps_reader.specs.Reports.{parts_and_end_items}
use Rattle.ps_reader.proofs.Whole.{query_stopped, part_stopped, part_more, parts_end}
use Rattle.ps_reader.specs.Reports.{next_items}
use Rattle.ps_reader.proofs.queries.parts.Goals as goal

pub returns-in_err-is_query-clause-parts : goal.returns-in_err-is_query-clause-parts
returns-in_err-is_query-clause-parts c =
    let f = err_from_is_err_and c.from_residual.result c.from_residual.ensures.1 in
    subst (λ r. IsValueRead parts_and_end_items (AQuery 1 ∷ []) c.args.lines.now c.is_query.new.lines r) (sym (f.1 ∙ ap Err f.2))
    (query_stopped c.args.lines.now c.loop-parts.lines c.loop-parts.parts c.loop-parts.number c.in_err-is_query.field-0.0 c.loop-parts.invariant c.in_err-is_query.ensures.line)

pub returns-in_err-part-clause-parts : goal.returns-in_err-part-clause-parts
returns-in_err-part-clause-parts c =
    let f = err_from_is_err_and c.from_residual-in_err-part.result c.from_residual-in_err-part.ensures.1 in
    subst (λ r. IsValueRead parts_and_end_items (AQuery 1 ∷ []) c.args.lines.now c.part.new.lines r) (sym (f.1 ∙ ap Err f.2))
    (part_stopped c.args.lines.now c.loop-parts.lines c.is_query.new.lines c.loop-parts.parts c.loop-parts.number c.in_err-part.field-0.0 c.loop-parts.invariant (subst (λ t. Takes c.loop-parts.lines c.is_query.new.lines (next_items c.loop-parts.number t)) c.if-branch.true c.in_ok-is_query.ensures.line) c.in_err-part.ensures.part)

pub returns-in_err-push-clause-parts : goal.returns-in_err-push-clause-parts
returns-in_err-push-clause-parts c =
    let f = err_from_is_err_and c.from_residual-in_err-push.result c.from_residual-in_err-push.ensures.1 in
    subst (λ r. IsValueRead parts_and_end_items (AQuery 1 ∷ []) c.args.lines.now c.part.new.lines r) (sym (f.1 ∙ ap Err f.2))
    (query_stopped c.args.lines.now c.loop-parts.lines c.loop-parts.parts c.loop-parts.number NoMemory c.loop-parts.invariant
    (lack_kept c.loop-parts.lines c.is_query.new.lines (AQuery c.loop-parts.number) (line.Query c.loop-parts.number) (subst (λ t. Takes c.loop-parts.lines c.is_query.new.lines (next_items c.loop-parts.number t)) c.if-branch.true c.in_ok-is_query.ensures.line) tt))

pub loop-parts-preserved : goal.loop-parts-preserved
loop-parts-preserved c = part_more c.args.lines.now c.loop-parts.lines c.is_query.new.lines c.part.new.lines c.loop-parts.parts c.push.new.self c.in_ok-part.field-0 c.loop-parts.number _ c.loop-parts.invariant (subst (λ t. Takes c.loop-parts.lines c.is_query.new.lines (next_items c.loop-parts.number t)) c.if-branch.true c.in_ok-is_query.ensures.line) c.in_ok-part.ensures.part c.in_ok-part.ensures.counted c.in_ok-push.ensures.ok refl

pub returns-clause-parts : goal.returns-clause-parts
returns-clause-parts c = parts_end c.args.lines.now c.loop-parts.lines c.is_query.new.lines c.loop-parts.parts c.loop-parts.number c.loop-parts.invariant (subst (λ t. Takes c.loop-parts.lines c.is_query.new.lines (next_items c.loop-parts.number t)) c.if-branch.false c.in_ok-is_query.ensures.line)
