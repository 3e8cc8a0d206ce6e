use Rattle.std.proofs.Common.{rules, [], ◌∷◌, ◌++◌, map}
use Rattle.std.specs.Result.{IsErr}
use Rattle.ps_log.specs.Texts.{step_line, goal_line}
use Rattle.ps_max_text.specs.Texts.{best_lines}
use Rattle.ps_max_text.proofs.Sequence.{lines_then, lines_stop, short_first, short_last}
use Rattle.ps_max_text.proofs.writing.write_spent.Goals as goal

pub write_steps-requires-clause-short : goal.write_steps-requires-clause-short
write_steps-requires-clause-short g c = short_first (map step_line c.args.steps.now) (best_lines c.args.best.now) c.requires.short.1

pub write_best-requires-clause-short : goal.write_best-requires-clause-short
write_best-requires-clause-short g c = short_last (map step_line c.args.steps.now) (best_lines c.args.best.now) c.requires.short.1

pub returns : goal.returns
returns g c =
    lines_then g.O.Sink _ _ _ _ (goal_line c.args.goal.now ∷ []) (map step_line c.args.steps.now ++ best_lines c.args.best.now) (rw c.in_ok-write_goal.was at c.write_goal.ensures)
    (lines_then g.O.Sink _ _ _ _ (map step_line c.args.steps.now) (best_lines c.args.best.now) (rw c.in_ok-write_steps.was at c.write_steps.ensures) c.write_best.ensures)

pub returns-in_err-write_goal : goal.returns-in_err-write_goal
returns-in_err-write_goal g c =
    let failed : IsErr c.from_residual.result = search rules in
    lines_stop g.O.Sink c.args.lines.now c.write_goal.new.lines _ c.from_residual.result (goal_line c.args.goal.now ∷ []) (map step_line c.args.steps.now ++ best_lines c.args.best.now)
    (rw c.in_err-write_goal.was at c.write_goal.ensures) failed

pub returns-in_err-write_steps : goal.returns-in_err-write_steps
returns-in_err-write_steps g c =
    let failed : IsErr c.from_residual-in_err-write_steps.result = search rules in
    lines_then g.O.Sink _ _ _ _ (goal_line c.args.goal.now ∷ []) (map step_line c.args.steps.now ++ best_lines c.args.best.now) (rw c.in_ok-write_goal.was at c.write_goal.ensures)
    (lines_stop g.O.Sink c.write_goal.new.lines c.write_steps.new.lines _ c.from_residual-in_err-write_steps.result (map step_line c.args.steps.now) (best_lines c.args.best.now)
    (rw c.in_err-write_steps.was at c.write_steps.ensures) failed)
