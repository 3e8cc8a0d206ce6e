use Rattle.std.proofs.Common.{◌∙◌, ap, Err, ◌∷◌}
use mir.Syntax.{w128}
use Rattle.std.specs.Prelude.{[]}
use Rattle.std.proofs.lemmas.Int.{to_z-of_z}
use Rattle.std.proofs.lemmas.Result.{err_from_is_err_and}
use Rattle.ps_max_text.specs.declared.item.MaxItem.TheVariants as line
use Rattle.ps_max_text.specs.Answered.{best_items}
use Rattle.ps_max_text.proofs.Taking.{rest_stopped}
use Rattle.ps_max_text.proofs.reading.best_of.Goals as goal

pub returns-in_err-assignment : goal.returns-in_err-assignment
returns-in_err-assignment c =
    let f = err_from_is_err_and c.from_residual.result c.from_residual.ensures.1 in
    rest_stopped best_items (line.Best c.args.cost) c.args.lines.now c.values.new.lines c.in_err-assignment.field-0.0 c.from_residual.result
    c.in_err-assignment.ensures (f.1 ∙ ap Err f.2)

pub returns : goal.returns
returns c = (
  line.Values c.in_ok-assignment.assignment ∷ [],
  ap (λ z. line.Best z ∷ line.Values c.in_ok-assignment.assignment ∷ []) (to_z-of_z w128 c.args.cost c.ranges.cost),
  c.in_ok-assignment.ensures,
)
