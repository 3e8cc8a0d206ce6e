use Rattle.ps_max_answer.proofs.Accepted.{found-unfaulted}
use Rattle.ps_max_answer.proofs.laws.found_answers_are_accepted.Goals as goal

pub returns : goal.returns
returns c = found-unfaulted
