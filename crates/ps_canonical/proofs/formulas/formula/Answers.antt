use Rattle.std.proofs.Common.{◌<◌, ◌++◌, sym, ap, ◌∙◌, arith}
use Rattle.ps_canonical.specs.Tasks.{tasks_text, tasks_steps}
use Rattle.ps_canonical.proofs.Done.{text-push, steps-push}
use Rattle.ps_canonical.proofs.formulas.formula.Goals as goal

pub loop-task-smaller : goal.loop-task-smaller
loop-task-smaller c =
    let p = c.args.problem.now in
    let t = c.in-Some.task in
    let rest = c.pop.new.self in
    let n = ap (tasks_steps p) c.in-Some.ensures.last ∙ steps-push p rest t in
    let f = c.in_ok-step.ensures.fewer in
    let less : tasks_steps p c.step.new.tasks < tasks_steps p c.loop-task.tasks = omega (arith, n, f) in
    less

pub loop-task-preserved : goal.loop-task-preserved
loop-task-preserved c =
    let p = c.args.problem.now in
    let t = c.in-Some.task in
    let rest = c.pop.new.self in
    let d = c.in_ok-step.ensures in
    record {
      there = d.there;
      text = d.text ∙ ap (λ bs. c.loop-task.out.items ++ bs) (sym (text-push p rest t) ∙ sym (ap (tasks_text p) c.in-Some.ensures.last)) ∙ c.loop-task.invariant.text;
    }
