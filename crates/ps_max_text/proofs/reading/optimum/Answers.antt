use Rattle.std.proofs.Common.{◌∙◌, ap, Err, ◌∷◌}
use mir.Syntax.{w128}
use Rattle.std.specs.Prelude.{[]}
use Rattle.std.proofs.lemmas.Int.{to_z-of_z}
use Rattle.std.proofs.lemmas.Result.{err_from_is_err_and}
use Rattle.ps_max_text.specs.declared.item.MaxItem.TheVariants as line
use Rattle.ps_max_text.specs.declared.part.MaxPart.TheVariants as part
use Rattle.ps_max_text.specs.Answered.{body_items, log_items}
use Rattle.ps_max_text.proofs.Taking.{takes_both, stopped_more, stopped_after, rest_stopped}
use Rattle.ps_max_text.proofs.Passing.{values_pass}
use Rattle.ps_max_text.proofs.reading.optimum.Goals as goal

pub returns-in_err-assignment : goal.returns-in_err-assignment
returns-in_err-assignment c =
    let f = err_from_is_err_and c.from_residual.result c.from_residual.ensures.1 in
    rest_stopped body_items (line.Optimum c.args.cost) c.args.lines.now c.values.new.lines c.in_err-assignment.field-0.0 c.from_residual.result
    (stopped_more c.args.lines.now (part.Values ∷ []) (part.Log ∷ []) c.in_err-assignment.field-0.0 c.in_err-assignment.ensures)
    (f.1 ∙ ap Err f.2)

pub returns-in_err-steps : goal.returns-in_err-steps
returns-in_err-steps c =
    let f = err_from_is_err_and c.from_residual-in_err-steps.result c.from_residual-in_err-steps.ensures.1 in
    rest_stopped body_items (line.Optimum c.args.cost) c.args.lines.now c.log.new.lines c.in_err-steps.field-0.0 c.from_residual-in_err-steps.result
    (stopped_after c.args.lines.now c.values.new.lines (part.Values ∷ []) (part.Log ∷ []) (line.Values c.in_ok-assignment.assignment ∷ []) c.in_err-steps.field-0.0 c.in_ok-assignment.ensures (values_pass c.in_ok-assignment.assignment) c.in_err-steps.ensures)
    (f.1 ∙ ap Err f.2)

pub returns : goal.returns
returns c = (
  line.Values c.in_ok-assignment.assignment ∷ log_items c.in_ok-steps.steps,
  ap (λ z. line.Optimum z ∷ line.Values c.in_ok-assignment.assignment ∷ log_items c.in_ok-steps.steps) (to_z-of_z w128 c.args.cost c.ranges.cost),
  takes_both c.args.lines.now c.values.new.lines c.log.new.lines (line.Values c.in_ok-assignment.assignment ∷ []) (log_items c.in_ok-steps.steps) c.in_ok-assignment.ensures c.in_ok-steps.ensures,
)
