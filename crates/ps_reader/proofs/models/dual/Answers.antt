use Rattle.std.proofs.Common.{◌∙◌, ap, Err, ◌∷◌, []}
use Rattle.std.proofs.lemmas.Result.{err_from_is_err_and}
use Rattle.ps_answer.specs.declared.part.Part.TheVariants.{ADual}
use Rattle.ps_answer.specs.Answers.{dual_items}
use Rattle.ps_reader.proofs.Values.{value_stopped, takes_dual, rows_stopped, steps_stopped}
use Rattle.ps_reader.proofs.models.dual.Goals as goal

pub returns-in_err-rows : goal.returns-in_err-rows
returns-in_err-rows c =
    let f = err_from_is_err_and c.from_residual-in_err-rows.result c.from_residual-in_err-rows.ensures.1 in
    value_stopped dual_items (ADual ∷ []) c.args.lines.now c.rows.new.lines c.in_err-rows.field-0.0 c.from_residual-in_err-rows.result
    (rows_stopped c.args.lines.now c.dual_head.new.lines c.in_ok-top.top c.in_ok-top.head c.in_ok-top.count c.in_err-rows.field-0.0 c.in_ok-top.ensures c.in_err-rows.ensures)
    (f.1 ∙ ap Err f.2)

pub returns-in_err-steps : goal.returns-in_err-steps
returns-in_err-steps c =
    let f = err_from_is_err_and c.from_residual-in_err-steps.result c.from_residual-in_err-steps.ensures.1 in
    value_stopped dual_items (ADual ∷ []) c.args.lines.now c.steps.new.lines c.in_err-steps.field-0.0 c.from_residual-in_err-steps.result
    (steps_stopped c.args.lines.now c.dual_head.new.lines c.rows.new.lines c.in_ok-top.top c.in_ok-top.head c.in_ok-top.count c.in_ok-rows.rows c.in_err-steps.field-0.0
    c.in_ok-top.ensures c.in_ok-rows.ensures c.in_err-steps.ensures.steps)
    (f.1 ∙ ap Err f.2)

pub returns : goal.returns
returns c =
    takes_dual c.args.lines.now c.dual_head.new.lines c.rows.new.lines c.steps.new.lines c.in_ok-top.top c.in_ok-top.head c.in_ok-top.count c.in_ok-rows.rows c.in_ok-steps.steps
    c.in_ok-top.ensures c.in_ok-rows.ensures c.in_ok-steps.ensures.steps c.in_ok-steps.ensures.count
