use Rattle.ps_explain.proofs.Models.{all_met}
use Rattle.ps_explain.proofs.explaining.explain_with.Goals as goal

pub returns-in-Met : goal.returns-in-Met
returns-in-Met g c =
    all_met c.args.means.now.limits c.args.means.now.trials.now c.in_ok-kept.kept c.in-Met.model (rw c.problem-problem.ensures.is at c.in_ok-kept.ensures.each) c.in_ok-kept.ensures.all
    (rw (c.in-Met.is, c.as_slice.ensures) at c.in_ok-model.ensures)
