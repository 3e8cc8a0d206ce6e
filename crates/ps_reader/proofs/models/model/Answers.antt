use Rattle.std.proofs.Common.{◌∙◌, ap, Err, ◌∷◌, []}
use Rattle.std.proofs.lemmas.Result.{err_from_is_err_and}
use Rattle.ps_answer.specs.declared.part.Part.TheVariants.{AModel}
use Rattle.ps_answer.specs.Answers.{model_items}
use Rattle.ps_reader.proofs.Values.{value_stopped, takes_model, model_stopped}
use Rattle.ps_reader.proofs.models.model.Goals as goal

pub returns-in_err-worlds : goal.returns-in_err-worlds
returns-in_err-worlds c =
    let f = err_from_is_err_and c.from_residual-in_err-worlds.result c.from_residual-in_err-worlds.ensures.1 in
    value_stopped model_items (AModel ∷ []) c.args.lines.now c.entries.new.lines c.in_err-worlds.field-0.0 c.from_residual-in_err-worlds.result
    (model_stopped c.args.lines.now c.model_head.new.lines c.in_ok-total.total c.in_ok-total.count c.in_err-worlds.field-0.0 c.in_ok-total.ensures c.in_err-worlds.ensures.worlds)
    (f.1 ∙ ap Err f.2)

pub returns : goal.returns
returns c =
    takes_model c.args.lines.now c.model_head.new.lines c.entries.new.lines c.in_ok-total.total c.in_ok-total.count c.in_ok-worlds.worlds
    c.in_ok-total.ensures c.in_ok-worlds.ensures.worlds c.in_ok-worlds.ensures.count
