use Rattle.ps_max_answer.proofs.Unfaulted.{unfaulted}
use Rattle.ps_max_answer.proofs.laws.unfaulted_answers_are_right.Goals as goal

pub returns : goal.returns
returns c = unfaulted
