use Rattle.std.proofs.Common.{refl, sym, ap, subst, Err, ◌∙◌, ◌∷◌, map}
use Rattle.std.specs.Prelude.{[]}
use Rattle.std.proofs.lemmas.Result.{err_from_is_err_and}
use Rattle.ps_answer.specs.declared.item.LineItem.TheVariants as line
use Rattle.ps_answer.specs.declared.part.Part.TheVariants.{AStep, AGoal}
use Rattle.ps_answer.specs.Answers.{cause_items}
use Rattle.ps_reader.specs.Taken.{repeated}
use Rattle.ps_reader.specs.Reports.{HasRest, IsReadBehind}
use Rattle.ps_reader.proofs.Taking.{takes_both}
use Rattle.ps_reader.proofs.Passing.{goal_passes}
use Rattle.ps_reader.proofs.Rests.{stopped_after}
use Rattle.ps_reader.proofs.causes.conflicts.Goals as goal

pub returns-in_err-steps-clause-cause : goal.returns-in_err-steps-clause-cause
returns-in_err-steps-clause-cause c =
    let f = err_from_is_err_and c.from_residual-in_err-steps.result c.from_residual-in_err-steps.ensures.1 in
    subst (λ r. IsReadBehind (HasRest (line.OpenConflicts c.args.limit) cause_items) (AGoal ∷ repeated c.args.limit AStep) c.args.lines.now c.steps.new.lines r) (sym (f.1 ∙ ap Err f.2))
    (stopped_after c.args.lines.now c.goal.new.lines (AGoal ∷ []) (repeated c.args.limit AStep) (line.GoalLine c.in_ok-goal.goal ∷ []) c.in_err-steps.field-0.0 c.in_ok-goal.ensures (goal_passes c.in_ok-goal.goal) c.in_err-steps.ensures.steps)

pub returns-clause-cause : goal.returns-clause-cause
returns-clause-cause c = (_, refl, takes_both c.args.lines.now c.goal.new.lines c.steps.new.lines (line.GoalLine c.in_ok-goal.goal ∷ []) (map line.StepLine c.in_ok-steps.steps) c.in_ok-goal.ensures c.in_ok-steps.ensures.steps)
