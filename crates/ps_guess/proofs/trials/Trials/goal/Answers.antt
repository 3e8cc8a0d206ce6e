use Rattle.std.proofs.Common.{rules, ◌≡◌}
use Rattle.std.specs.Prelude.{IfOk}
use Rattle.ps_claims.specs.Goals.{goal_of}
use Rattle.ps_problem.specs.Problems.{AreParts}
use Rattle.ps_guess.specs.Trials.{combined}
use Rattle.ps_guess.proofs.Against.{goal_within}
use Rattle.ps_guess.proofs.trials.Trials.goal.Goals as goal

pub returns-clause-within : goal.returns-clause-within
returns-clause-within c =
    let p = c.args.self.now in
    let are : AreParts p = search rules in
    let value : IfOk c.from_weights.result (λ x. x ≡ goal_of (combined p c.args.kind c.args.query c.args.dual.now)) = search rules in
    goal_within p c.args.kind c.args.query c.args.dual.now c.from_weights.result are c.requires.asked value
