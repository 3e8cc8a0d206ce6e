use Rattle.std.proofs.Common.{ℕ, ◌≡◌, ◌≤◌, rules, Some, true, sym, ap, ◌∙◌, subst, to_z, of_z, arith}
use Rattle.std.specs.Prelude.{IsTrue}
use mir.Syntax.{w128}
use Rattle.std.proofs.lemmas.Int.{ints}
use Rattle.ps_pb.specs.declared.limits.TheConstants.{MOST_VARIABLES}
use Rattle.ps_maxsat.specs.Values.{goal_of}
use Rattle.ps_optimum.proofs.Logged.{outcome-has}
use Rattle.ps_optimum.proofs.Printing.{outcome-printed}
use Rattle.ps_optimum.proofs.seeking.seek.Goals as goal

pub returns-in-Ok-clause-sought : goal.returns-in-Ok-clause-sought
returns-in-Ok-clause-sought c =
    let tells : IsTrue true = search rules in
    let least : to_z w128 (of_z w128 c.args.least) ≡ c.args.least = omega (arith, ints, c.requires.least) in
    c.sought_by.ensures.sought c.args.wcnf.now c.args.least c.args.conflicts
    (outcome-has c.args.wcnf.now c.in_ok-goal.goal c.args.least c.args.conflicts (record { tells = true; goal = c.search.new.log.goal; steps = Some c.search.new.log.steps }) c.in-Ok.outcome c.take_steps-steps.result
    tells (ap Some (sym c.take_steps-steps.ensures.taken)) (c.in_ok-goal.ensures.value ∙ ap (goal_of c.args.wcnf.now) least) c.in-Ok.ensures.outcome c.in-Ok.ensures.logged)

pub returns-in-Ok-clause-printed : goal.returns-in-Ok-clause-printed
returns-in-Ok-clause-printed c =
    let tells : IsTrue true = search rules in
    let few : c.args.wcnf.now.hard.variables ≤ MOST_VARIABLES = subst (λ (n : ℕ). n ≤ MOST_VARIABLES) c.variables-variables.ensures.value c.variables-variables.ensures.within in
    c.sought_by.ensures.printed c.args.conflicts
    (outcome-printed c.args.wcnf.now.hard c.in_ok-goal.goal c.args.conflicts (record { tells = true; goal = c.search.new.log.goal; steps = Some c.search.new.log.steps }) c.in-Ok.outcome c.take_steps-steps.result
    tells (ap Some (sym c.take_steps-steps.ensures.taken)) few c.in-Ok.ensures.logged)
    c.in_ok-goal.ensures.printed
