use Rattle.std.proofs.Common.{rules, ℕ, ◌≤◌, Some, true, sym, ap, subst}
use Rattle.std.specs.Prelude.{IsTrue}
use Rattle.ps_pb.specs.declared.limits.TheConstants.{MOST_VARIABLES}
use Rattle.ps_guess.proofs.Logged.{held_few, held_literals}
use Rattle.ps_guess.proofs.searching.seek.Goals as goal

pub returns-in-Ok-clause-few : goal.returns-in-Ok-clause-few
returns-in-Ok-clause-few c =
    let tells : IsTrue true = search rules in
    held_few c.args.form.now c.args.goal.now c.args.conflicts true (record { tells = true; goal = c.search.new.log.goal; steps = Some c.search.new.log.steps }) c.in-Ok.outcome
    c.take_steps-steps.result tells (ap Some (sym c.take_steps-steps.ensures.taken)) c.in-Ok.ensures.logged

pub returns-in-Ok-clause-literals : goal.returns-in-Ok-clause-literals
returns-in-Ok-clause-literals c =
    let tells : IsTrue true = search rules in
    let few : c.args.form.now.variables ≤ MOST_VARIABLES = subst (λ (n : ℕ). n ≤ MOST_VARIABLES) c.variables-variables.ensures.value c.variables-variables.ensures.within in
    held_literals c.args.form.now c.args.goal.now c.args.conflicts true (record { tells = true; goal = c.search.new.log.goal; steps = Some c.search.new.log.steps }) c.in-Ok.outcome
    c.take_steps-steps.result tells (ap Some (sym c.take_steps-steps.ensures.taken)) c.in-Ok.ensures.logged few
