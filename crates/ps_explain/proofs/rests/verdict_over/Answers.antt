use Rattle.ps_explain.proofs.NotMet.{shown_not_met}
use Rattle.ps_explain.proofs.rests.verdict_over.Goals as goal

pub returns-in-NotMet : goal.returns-in-NotMet
returns-in-NotMet g c =
    shown_not_met c.args.means.now.trials.now c.args.kept.now c.in-NotMet.conflict c.problem-problem.ensures.parts (rw c.in-NotMet.is at c.in_ok-model.ensures)
