use Rattle.std.proofs.Common.{rules, ◌≡◌, subst}
use Rattle.ps_clause.specs.Forms.{Form, form_of}
use Rattle.ps_problem.specs.Problems.{Parts, AreParts}
use Rattle.ps_sat.specs.Searches.{IsOutcome}
use Rattle.ps_sat.specs.declared.searching.Outcome.{Outcome}
use Rattle.ps_sat.specs.declared.searching.Outcome.TheVariants.{Found}
use Rattle.ps_guess.proofs.Against.{found_against}
use Rattle.ps_guess.proofs.trials.Trials.refute.Goals as goal

pub returns-in_ok-world-in-Found-clause-against : goal.returns-in_ok-world-in-Found-clause-against
returns-in_ok-world-in-Found-clause-against c =
    let p = c.args.self.now in
    let g = c.in_ok-goal.goal in
    let conflicts = c.args.conflicts in
    let are : AreParts p = search rules in
    let form : c.self.inside.form ≡ form_of p.nodes = subst (λ (x : Parts). c.self.inside.form ≡ form_of x.nodes) c.self.view_is c.self.invariant.0 in
    let found = subst (λ (o : Outcome). IsOutcome c.self.inside.form g conflicts o) c.in-Found.is c.in_ok-outcome.ensures.outcome in
    found_against p c.args.kind c.args.query c.args.dual conflicts c.in-Found.assignment g c.in_ok-world-in-Found.field-0 are c.in_ok-goal.ensures.value
    (subst (λ (f : Form). IsOutcome f g conflicts (Found c.in-Found.assignment)) form found) c.in_ok-world-in-Found.ensures.length c.in_ok-world-in-Found.ensures.of
