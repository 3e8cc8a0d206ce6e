use Rattle.std.proofs.Common.{rules, ℕ, ◌≤◌, Some, true, sym, ap, subst}
use Rattle.std.specs.Prelude.{IsTrue}
use Rattle.ps_pb.specs.declared.limits.TheConstants.{MOST_VARIABLES}
use Rattle.ps_pricing.proofs.Found.{log_steps, log_literals, few_steps}
use Rattle.ps_pricing.proofs.sought.seek.Goals as goal

pub returns-in-Ok-clause-steps : goal.returns-in-Ok-clause-steps
returns-in-Ok-clause-steps c =
    let tells : IsTrue true = search rules in
    log_steps c.args.wcnf.now c.args.conflicts true (record { tells = true; goal = c.best_from.new.log.goal; steps = Some c.best_from.new.log.steps }) c.in-Ok.priced c.take_steps-steps.result
    tells (ap Some (sym c.take_steps-steps.ensures.taken)) c.in-Ok.ensures.logged

pub returns-in-Ok-clause-few : goal.returns-in-Ok-clause-few
returns-in-Ok-clause-few c =
    let tells : IsTrue true = search rules in
    few_steps c.args.wcnf.now c.args.conflicts true (record { tells = true; goal = c.best_from.new.log.goal; steps = Some c.best_from.new.log.steps }) c.in-Ok.priced c.take_steps-steps.result
    tells (ap Some (sym c.take_steps-steps.ensures.taken)) c.in-Ok.ensures.logged

pub returns-in-Ok-clause-literals : goal.returns-in-Ok-clause-literals
returns-in-Ok-clause-literals c =
    let tells : IsTrue true = search rules in
    let few : c.args.wcnf.now.hard.variables ≤ MOST_VARIABLES = subst (λ (n : ℕ). n ≤ MOST_VARIABLES) c.variables-variables.ensures.value c.variables-variables.ensures.within in
    log_literals c.args.wcnf.now c.args.conflicts true (record { tells = true; goal = c.best_from.new.log.goal; steps = Some c.best_from.new.log.steps }) c.in-Ok.priced c.take_steps-steps.result
    tells (ap Some (sym c.take_steps-steps.ensures.taken)) few c.in-Ok.ensures.logged
