use Rattle.std.proofs.Common.{◌∙◌, ap, refl, Err}
use Rattle.std.proofs.lemmas.Result.{err_from_is_err_and}
use Rattle.ps_max_text.specs.declared.item.MaxItem.TheVariants as line
use Rattle.ps_max_text.specs.Answered.{body_items, log_items}
use Rattle.ps_max_text.proofs.Taking.{rest_stopped}
use Rattle.ps_max_text.proofs.reading.unsatisfiable.Goals as goal

pub returns-in_err-steps : goal.returns-in_err-steps
returns-in_err-steps c =
    let f = err_from_is_err_and c.from_residual.result c.from_residual.ensures.1 in
    rest_stopped body_items line.Unsatisfiable c.args.lines.now c.log.new.lines c.in_err-steps.field-0.0 c.from_residual.result c.in_err-steps.ensures (f.1 ∙ ap Err f.2)

pub returns : goal.returns
returns c = (log_items c.in_ok-steps.steps, refl, c.in_ok-steps.ensures)
