use Rattle.std.proofs.Common.{◌≡◌, None, ap, sym, subst, ◌∙◌}
use Rattle.ps_problem.specs.Problems.{HasNodes}
use Rattle.ps_runs.specs.declared.state.State.{State}
use Rattle.ps_generation.specs.Runs.{RunState}
use Rattle.ps_generation.specs.States.{IsRun}
use Rattle.ps_generation.proofs.Sure.{asked_run}
use Rattle.ps_generation.proofs.run.Run.asking.Goals as goal

pub invariant_of-result : goal.invariant_of-result
invariant_of-result c =
    let q = c.args.query in
    let on : State = record { table = c.in_ok-copy.field-0; pool = c.in_ok-copy-2.field-0; trace = c.new.result; left = c.self.inside.state.left } in
    let none : c.self.inside.setting.subject.query ≡ None = ap (λ (r : RunState). r.over.subject.query) c.self.view_is ∙ c.requires.none in
    subst (λ o. IsRun o on c.self.inside.broken) (sym c.in_ok-asking.ensures.value)
    (asked_run c.self.inside.setting c.self.inside.state on c.self.inside.broken q none c.requires.sure
    (subst (λ (r : RunState). HasNodes r.over.subject.parts.nodes q.formula q.given q.both) (sym c.self.view_is) c.requires.query)
    c.in_ok-copy.ensures c.in_ok-copy-2.ensures c.self.invariant)
