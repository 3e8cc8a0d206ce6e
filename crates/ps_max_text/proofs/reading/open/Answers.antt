use Rattle.std.proofs.Common.{◌∙◌, ap, Err, ◌∷◌, ◌++◌, map}
use Rattle.std.specs.Prelude.{[]}
use Rattle.std.proofs.lemmas.Result.{err_from_is_err_and}
use Rattle.ps_max_text.specs.declared.item.MaxItem.TheVariants as line
use Rattle.ps_max_text.specs.declared.part.MaxPart.TheVariants as part
use Rattle.ps_max_text.specs.Answered.{body_items, best_items}
use Rattle.ps_max_text.specs.Taken.{just_steps}
use Rattle.ps_max_text.proofs.Taking.{takes_both, stopped_more, stopped_after, rest_stopped}
use Rattle.ps_max_text.proofs.Passing.{goal_passes, goal_and_steps_pass}
use Rattle.ps_max_text.proofs.reading.open.Goals as goal

pub returns-in_err-goal : goal.returns-in_err-goal
returns-in_err-goal c =
    let f = err_from_is_err_and c.from_residual.result c.from_residual.ensures.1 in
    rest_stopped body_items (line.OpenConflicts c.args.limit c.args.count) c.args.lines.now c.goal.new.lines c.in_err-goal.field-0.0 c.from_residual.result
    (stopped_more c.args.lines.now (part.Goal ∷ []) (just_steps c.args.count ++ part.Best ∷ []) c.in_err-goal.field-0.0 c.in_err-goal.ensures)
    (f.1 ∙ ap Err f.2)

pub returns-in_err-steps : goal.returns-in_err-steps
returns-in_err-steps c =
    let f = err_from_is_err_and c.from_residual-in_err-steps.result c.from_residual-in_err-steps.ensures.1 in
    rest_stopped body_items (line.OpenConflicts c.args.limit c.args.count) c.args.lines.now c.steps.new.lines c.in_err-steps.field-0.0 c.from_residual-in_err-steps.result
    (stopped_after c.args.lines.now c.goal.new.lines (part.Goal ∷ []) (just_steps c.args.count ++ part.Best ∷ []) (line.GoalLine c.in_ok-goal.goal ∷ []) c.in_err-steps.field-0.0 c.in_ok-goal.ensures (goal_passes c.in_ok-goal.goal)
    (stopped_more c.goal.new.lines (just_steps c.args.count) (part.Best ∷ []) c.in_err-steps.field-0.0 c.in_err-steps.ensures.steps))
    (f.1 ∙ ap Err f.2)

pub returns-in_err-best : goal.returns-in_err-best
returns-in_err-best c =
    let f = err_from_is_err_and c.from_residual-in_err-best.result c.from_residual-in_err-best.ensures.1 in
    rest_stopped body_items (line.OpenConflicts c.args.limit c.args.count) c.args.lines.now c.best.new.lines c.in_err-best.field-0.0 c.from_residual-in_err-best.result
    (stopped_after c.args.lines.now c.steps.new.lines (part.Goal ∷ just_steps c.args.count) (part.Best ∷ []) (line.GoalLine c.in_ok-goal.goal ∷ map line.StepLine c.in_ok-steps.steps) c.in_err-best.field-0.0
    (takes_both c.args.lines.now c.goal.new.lines c.steps.new.lines (line.GoalLine c.in_ok-goal.goal ∷ []) (map line.StepLine c.in_ok-steps.steps) c.in_ok-goal.ensures c.in_ok-steps.ensures.steps)
    (goal_and_steps_pass c.in_ok-goal.goal c.in_ok-steps.steps c.args.count c.in_ok-steps.ensures.count) c.in_err-best.ensures)
    (f.1 ∙ ap Err f.2)

pub returns : goal.returns
returns c = (
  line.GoalLine c.in_ok-goal.goal ∷ map line.StepLine c.in_ok-steps.steps ++ best_items c.in_ok-best.best,
  ap (λ n. line.OpenConflicts c.args.limit n ∷ line.GoalLine c.in_ok-goal.goal ∷ map line.StepLine c.in_ok-steps.steps ++ best_items c.in_ok-best.best) c.in_ok-steps.ensures.count,
  takes_both c.args.lines.now c.goal.new.lines c.best.new.lines (line.GoalLine c.in_ok-goal.goal ∷ []) (map line.StepLine c.in_ok-steps.steps ++ best_items c.in_ok-best.best) c.in_ok-goal.ensures
      (takes_both c.goal.new.lines c.steps.new.lines c.best.new.lines (map line.StepLine c.in_ok-steps.steps) (best_items c.in_ok-best.best) c.in_ok-steps.ensures.steps c.in_ok-best.ensures),
)
