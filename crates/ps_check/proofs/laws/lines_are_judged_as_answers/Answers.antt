use Rattle.ps_check.proofs.WholeAnswers.{lines_judged}
use Rattle.ps_check.proofs.laws.lines_are_judged_as_answers.Goals as goal

pub returns : goal.returns
returns c = record { judged = λ p a g few small t. lines_judged p a few small g t }
