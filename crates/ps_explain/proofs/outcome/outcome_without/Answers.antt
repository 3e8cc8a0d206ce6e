use Rattle.std.proofs.Common.{◌≡◌, rules}
use Rattle.ps_problem.specs.Problems.{AreParts}
use Rattle.ps_explain.specs.Explanations.{without}
use Rattle.ps_explain.proofs.Models.{open_without}
use Rattle.ps_explain.proofs.outcome.outcome_without.Goals as goal

pub returns : goal.returns
returns g c =
    let others : c.as_slice-3.result.now ≡ without c.args.conflict.now.kept c.args.place = search rules in
    let named : c.as_slice-in-Open.result.now ≡ without c.args.conflict.now.kept c.args.place = search rules in
    let are : AreParts c.args.means.now.trials.now = search rules in
    open_without c.args.means.now.limits c.args.means.now.trials.now c.args.conflict.now c.args.place c.in_ok-numbers_of-in-Open.field-0 c.in-Open.cause c.in-Open.first are
    c.requires.conflict c.requires.kept (rw named at c.in_ok-numbers_of-in-Open.ensures) (rw (c.in-Open.is, others) at c.in_ok-model-2.ensures)
