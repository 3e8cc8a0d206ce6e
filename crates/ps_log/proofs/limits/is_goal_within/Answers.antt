use Rattle.std.proofs.Common.{sym, subst}
use Rattle.std.specs.List.{All}
use Rattle.ps_pb.specs.Weights.{IsNormal}
use Rattle.ps_log.proofs.Lengths.{goal_is_short}
use Rattle.ps_log.specs.GoalNumbers.{HasLiteral}
use Rattle.ps_log.proofs.Within.{few_terms, goal_is_within, is_few}
use Rattle.ps_log.proofs.limits.is_goal_within.Goals as goal

pub returns-then-have_literals-clause-always : goal.returns-then-have_literals-clause-always
returns-then-have_literals-clause-always c =
    let normal = subst (λ ts. IsNormal ts c.args.goal.now.degree) (sym c.as_slice-terms.ensures) c.terms.ensures.normal in
    is_few _ (few_terms c.as_slice-terms.result.now c.args.goal.now.degree normal c.have_literals.ensures.within)

pub returns-then-have_literals-clause-within : goal.returns-then-have_literals-clause-within
returns-then-have_literals-clause-within c =
    let lits = subst (λ ts. All HasLiteral ts) c.as_slice-terms.ensures c.have_literals.ensures.within in
    goal_is_within c.args.goal.now c.terms.result.now c.terms.ensures.value c.terms.ensures.normal lits

pub returns-then-have_literals-clause-short : goal.returns-then-have_literals-clause-short
returns-then-have_literals-clause-short c = goal_is_short c.args.goal.now (returns-then-have_literals-clause-within c)
