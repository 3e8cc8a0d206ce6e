use Rattle.std.proofs.Common.{rules}
use Rattle.std.specs.Result.{IsErr}
use Rattle.std.proofs.Common.{[], ◌∷◌}
use Rattle.ps_answer.specs.declared.item.LineItem.TheVariants as line
use Rattle.ps_report.specs.Parts.{goal_items}
use Rattle.ps_report.proofs.Sequence.{items_then, items_stop}
use Rattle.ps_report.proofs.causes.write_conflicts.Goals as goal

pub returns : goal.returns
returns g c = items_then g.O.Sink _ _ _ _ (line.OpenConflicts c.args.limit ∷ []) (goal_items c.args.goal.now c.args.steps.now) (rw c.in_ok-write_open_conflicts.was at c.write_open_conflicts.ensures) c.write_goal_and_steps.ensures

pub returns-in_err-write_open_conflicts : goal.returns-in_err-write_open_conflicts
returns-in_err-write_open_conflicts g c =
    let failed : IsErr c.from_residual.result = search rules in
    items_stop g.O.Sink c.args.lines.now c.write_open_conflicts.new.lines _ c.from_residual.result (line.OpenConflicts c.args.limit ∷ []) (goal_items c.args.goal.now c.args.steps.now) (rw c.in_err-write_open_conflicts.was at c.write_open_conflicts.ensures) failed
