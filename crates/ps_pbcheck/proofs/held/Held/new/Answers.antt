use Rattle.std.proofs.Common.{◌≡◌, ◌++◌, [], ◌∷◌, map, arith, ap, sym, subst, ◌∙◌}
use Rattle.std.specs.List.{All}
use Rattle.ps_pb.specs.Assignments.{AreDifferent}
use Rattle.ps_pbcheck.specs.Followed.{lits_in, held_of}
use Rattle.ps_pbcheck.proofs.Relisted.{all_differ, held_start}
use Rattle.ps_pbcheck.proofs.held.Held.new.Goals as goal

pub invariant_of-result : goal.invariant_of-result
invariant_of-result c =
    let is : c.in_ok-clauses.clauses ≡ map lits_in c.args.form.clauses = c.in_ok-clauses.ensures ∙ ap (map lits_in) (c.as_slice.ensures ∙ c.into_clauses-constraints.ensures) in
    (omega (arith, c.len.ensures.value), subst (All AreDifferent) (sym is) (all_differ c.args.form.variables c.args.form.clauses c.variables-variables.ensures.clauses))

pub returns : goal.returns
returns c =
    let form = c.args.form in
    let clauses = c.in_ok-clauses.clauses in
    let kept = c.in_ok-new.field-0.value in
    let is : clauses ≡ map lits_in form.clauses = c.in_ok-clauses.ensures ∙ ap (map lits_in) (c.as_slice.ensures ∙ c.into_clauses-constraints.ensures) in
    ap (λ n. held_of clauses n kept) c.len.ensures.value ∙ held_start form.variables form.clauses clauses kept c.variables-variables.ensures.clauses is
    ∙ ap (λ k. form.clauses ++ k ∷ []) c.in_ok-new.ensures.ok
