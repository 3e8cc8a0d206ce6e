use Rattle.std.proofs.Common.{All, sym, subst, ◌∙◌}
use Rattle.ps_problem.specs.Rows.{IsRow}
use Rattle.ps_problem.proofs.BoundRows.{are-rows}
use Rattle.ps_problem.proofs.problem.Problem.rows.Goals as goal

pub returns-clause-sound : goal.returns-clause-sound
returns-clause-sound c =
    let p = c.self.invariant.0.parts in
    subst (λ q. All (IsRow q.nodes) c.as_slice.result.now) c.self.view_is
    (subst (All (IsRow c.self.inside.formulas)) (sym (c.as_slice.ensures ∙ c.self.invariant.1)) (are-rows c.self.inside.formulas c.self.inside.sentences p.bounds))
