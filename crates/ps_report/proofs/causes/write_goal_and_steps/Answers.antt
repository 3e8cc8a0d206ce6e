use Rattle.std.proofs.Common.{rules}
use Rattle.std.specs.Result.{IsErr}
use Rattle.std.proofs.Common.{[], ◌∷◌, map}
use Rattle.ps_answer.specs.declared.item.LineItem.TheVariants as line
use Rattle.ps_report.proofs.Sequence.{items_then, items_stop}
use Rattle.ps_report.proofs.causes.write_goal_and_steps.Goals as goal

pub returns : goal.returns
returns g c = items_then g.O.Sink _ _ _ _ (line.GoalLine c.args.goal.now ∷ []) (map line.StepLine c.args.steps.now) (rw c.in_ok-write_goal_line.was at c.write_goal_line.ensures) c.write_steps.ensures

pub returns-in_err-write_goal_line : goal.returns-in_err-write_goal_line
returns-in_err-write_goal_line g c =
    let failed : IsErr c.from_residual.result = search rules in
    items_stop g.O.Sink c.args.lines.now c.write_goal_line.new.lines _ c.from_residual.result (line.GoalLine c.args.goal.now ∷ []) (map line.StepLine c.args.steps.now) (rw c.in_err-write_goal_line.was at c.write_goal_line.ensures) failed
