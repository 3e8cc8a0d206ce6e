use Rattle.std.proofs.Common.{◌≡◌, ◌++◌, length, All}
use Rattle.ps_canonical.specs.Lines.{formula_text}
use Rattle.ps_canonical.specs.Tasks.{IsTask, tasks_text, tasks_steps}
use Rattle.ps_canonical.proofs.formulas.formula.Given as goal

abbrev pub invariant-loop-task : goal.invariant-loop-task
invariant-loop-task l = record {
  there : All (IsTask (length l.problem.nodes)) l.tasks;
  text : l.out.items ++ tasks_text l.problem l.tasks ≡ l.fn.out.items ++ formula_text l.problem l.root;
}

abbrev pub decreases-loop-task : goal.decreases-loop-task
decreases-loop-task l = tasks_steps l.problem l.tasks
