use Rattle.std.proofs.Common.{arith, refl, ℤ, to_z, of_z, ◌-ℤ◌, ◌≡◌, ◌∙◌}
use mir.Syntax.{w128}
use Rattle.std.proofs.lemmas.Int.{ints}
use Rattle.ps_maxsat.proofs.Rounds.{goal-within}
use Rattle.ps_optimum.proofs.Logged.{goal-is}
use Rattle.ps_optimum.proofs.seeking.goal_of.Goals as goal

pub returns-clause-value : goal.returns-clause-value
returns-clause-value c =
    c.in_ok-goal.ensures.value ∙ goal-is c.args.wcnf.now c.as_slice.result.now _ c.args.least c.as_slice.ensures (omega (arith, ints, c.requires.sizes, c.requires.least))

pub returns-clause-within : goal.returns-clause-within
returns-clause-within c =
    let r : ℤ = to_z w128 (of_z w128 (to_z w128 (of_z w128 c.args.least) -ℤ to_z w128 (of_z w128 c.args.wcnf.now.base))) in
    let e : r ≡ c.args.least -ℤ c.args.wcnf.now.base = omega (arith, ints, c.requires.sizes, c.requires.least) in
    goal-within c.args.wcnf.now.hard.variables c.in_ok-goal.goal c.in_ok-goal.goal c.as_slice.result.now c.args.wcnf.now.soft r (c.args.least -ℤ c.args.wcnf.now.base) refl c.in_ok-goal.ensures.value c.as_slice.ensures e c.requires.soft
