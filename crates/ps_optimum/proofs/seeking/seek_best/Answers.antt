use Rattle.std.proofs.Common.{ℕ, ◌≤◌, rules, Some, true, sym, ap, subst}
use Rattle.std.specs.Prelude.{IsTrue}
use Rattle.ps_pb.specs.declared.limits.TheConstants.{MOST_VARIABLES}
use Rattle.ps_optimum.proofs.Logged.{priced-has}
use Rattle.ps_optimum.proofs.Printing.{priced-printed}
use Rattle.ps_optimum.proofs.seeking.seek_best.Goals as goal

pub sought_of-requires-clause-priced : goal.sought_of-requires-clause-priced
sought_of-requires-clause-priced c =
    let tells : IsTrue true = search rules in
    priced-has c.args.wcnf.now c.args.conflicts (record { tells = true; goal = c.best.new.log.goal; steps = Some c.best.new.log.steps }) c.in-Ok.priced c.take_steps-steps.result
    tells (ap Some (sym c.take_steps-steps.ensures.taken)) c.in-Ok.ensures.priced c.in-Ok.ensures.logged

pub sought_of-requires-clause-printed : goal.sought_of-requires-clause-printed
sought_of-requires-clause-printed c =
    let tells : IsTrue true = search rules in
    let few : c.args.wcnf.now.hard.variables ≤ MOST_VARIABLES = subst (λ (n : ℕ). n ≤ MOST_VARIABLES) c.variables-variables.ensures.value c.variables-variables.ensures.within in
    priced-printed c.args.wcnf.now c.args.conflicts (record { tells = true; goal = c.best.new.log.goal; steps = Some c.best.new.log.steps }) c.in-Ok.priced c.take_steps-steps.result
    tells (ap Some (sym c.take_steps-steps.ensures.taken)) few c.in-Ok.ensures.logged
