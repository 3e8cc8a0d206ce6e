use Rattle.std.proofs.Common.{◌≡◌, ◌-ℤ◌, refl, ℤ, to_z, of_z, arith}
use mir.Syntax.{w128}
use Rattle.std.proofs.lemmas.Int.{ints}
use Rattle.ps_maxsat.proofs.Rounds.{goal-within, outcome-same, still-tells, logged-same, error-first}
use Rattle.ps_maxsat.proofs.pricing.search_above.Goals as goal

pub search_from-requires-clause-goal : goal.search_from-requires-clause-goal
search_from-requires-clause-goal g c =
    let r : ℤ = to_z w128 (of_z w128 (to_z w128 (of_z w128 c.args.least) -ℤ to_z w128 (of_z w128 c.args.wcnf.now.base))) in
    let e : r ≡ c.args.least -ℤ c.args.wcnf.now.base = omega (arith, ints, c.requires.sizes, c.requires.least) in
    goal-within c.args.wcnf.now.hard.variables c.in_ok-goal.goal c.in_ok-goal.goal c.as_slice.result.now c.args.wcnf.now.soft r (c.args.least -ℤ c.args.wcnf.now.base) refl c.in_ok-goal.ensures.value c.as_slice.ensures e c.requires.soft

pub returns-clause-outcome : goal.returns-clause-outcome
returns-clause-outcome g c =
    let r : ℤ = to_z w128 (of_z w128 (to_z w128 (of_z w128 c.args.least) -ℤ to_z w128 (of_z w128 c.args.wcnf.now.base))) in
    let e : r ≡ c.args.least -ℤ c.args.wcnf.now.base = omega (arith, ints, c.requires.sizes, c.requires.least) in
    outcome-same c.args.wcnf.now.hard c.in_ok-goal.goal c.in_ok-goal.goal c.as_slice.result.now c.args.wcnf.now.soft r (c.args.least -ℤ c.args.wcnf.now.base) c.args.conflicts c.search_from.result refl c.in_ok-goal.ensures.value c.as_slice.ensures e c.search_from.ensures.outcome

pub returns-clause-telling : goal.returns-clause-telling
returns-clause-telling g c = still-tells c.args.wcnf.now.hard _ c.args.conflicts _ _ c.search_from.result c.search_from.ensures.logged

pub returns-in_err-goal-clause-logged : goal.returns-in_err-goal-clause-logged
returns-in_err-goal-clause-logged g c = error-first c.args.wcnf.now c.args.least c.args.conflicts _ c.from_residual.result c.from_residual.ensures.0

pub returns-clause-logged : goal.returns-clause-logged
returns-clause-logged g c =
    let r : ℤ = to_z w128 (of_z w128 (to_z w128 (of_z w128 c.args.least) -ℤ to_z w128 (of_z w128 c.args.wcnf.now.base))) in
    let e : r ≡ c.args.least -ℤ c.args.wcnf.now.base = omega (arith, ints, c.requires.sizes, c.requires.least) in
    logged-same c.args.wcnf.now c.in_ok-goal.goal c.in_ok-goal.goal c.as_slice.result.now r c.args.least c.args.conflicts _ _ c.search_from.result refl c.in_ok-goal.ensures.value c.as_slice.ensures e c.search_from.ensures.logged
