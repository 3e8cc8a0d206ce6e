use Rattle.std.proofs.Common.{true≢false, sym, refl}
use Rattle.std.proofs.lemmas.Result.{err_from_is_err_and}
use Rattle.ps_log.proofs.GoalShapes.{terms-refused, not-normal, goal-made}
use Rattle.ps_log.proofs.goal_parts.goal_with.Goals as goal

pub returns-in_err-terms : goal.returns-in_err-terms
returns-in_err-terms c =
    let p = err_from_is_err_and c.from_residual.result c.from_residual.ensures.1 in
    rw (p.1, p.2) (terms-refused c.args.degree.now c.args.numbers.now c.in_err-terms.field-0.0 c.requires c.in_err-terms.ensures)

pub returns-in-Some : goal.returns-in-Some
returns-in-Some c =
    goal-made c.args.degree.now c.args.degree.now c.args.numbers.now c.in_ok-terms.terms c.in-Some.goal refl c.in-Some.ensures.value c.in_ok-terms.ensures.0 c.in_ok-terms.ensures.1 (c.in-Some.ensures.exact.0 refl)

pub returns-in-None : goal.returns-in-None
returns-in-None c =
    not-normal c.args.degree.now c.args.degree.now c.args.numbers.now c.in_ok-terms.terms refl c.requires c.in_ok-terms.ensures.0 (λ n. true≢false (sym (c.in-None.ensures.exact.1 n)))
