use Rattle.std.proofs.Common.{sym, ap, subst, Err, ◌∙◌, ◌∷◌, ◌++◌}
use Rattle.std.specs.Prelude.{[]}
use Rattle.std.proofs.lemmas.Result.{err_from_is_err_and}
use Rattle.ps_answer.specs.declared.part.Part.TheVariants.{ATrace}
use Rattle.ps_answer.specs.Answers.{trace_items}
use Rattle.ps_reader.specs.Reports.{HasRest, IsReadBehind, parts_behind, query_part_items}
use Rattle.ps_reader.proofs.Taking.{takes_both}
use Rattle.ps_reader.proofs.Passing.{opening_passes}
use Rattle.ps_reader.proofs.Rests.{stopped_after}
use Rattle.ps_reader.proofs.queries.open.Goals as goal

pub returns-in_err-first-clause-part : goal.returns-in_err-first-clause-part
returns-in_err-first-clause-part c =
    let f = err_from_is_err_and c.from_residual-in_err-first.result c.from_residual-in_err-first.ensures.1 in
    subst (λ r. IsReadBehind (HasRest c.args.item query_part_items) (parts_behind c.args.item ++ ATrace ∷ []) c.args.lines.now c.trace.new.lines r) (sym (f.1 ∙ ap Err f.2))
    (let k = c.in_ok-cause.ensures.cause in stopped_after c.args.lines.now c.cause_behind.new.lines (parts_behind c.args.item) (ATrace ∷ []) k.0 c.in_err-first.field-0.0 k.2 (opening_passes c.in_ok-cause.cause c.args.item k.0 c.in_ok-cause.ensures.counted k.1) c.in_err-first.ensures)

pub returns-clause-part : goal.returns-clause-part
returns-clause-part c = let k = c.in_ok-cause.ensures.cause in (k.0 ++ (trace_items c.in_ok-first.first), ap (λ l. l ++ (trace_items c.in_ok-first.first)) k.1, takes_both c.args.lines.now c.cause_behind.new.lines c.trace.new.lines k.0 (trace_items c.in_ok-first.first) k.2 c.in_ok-first.ensures)
