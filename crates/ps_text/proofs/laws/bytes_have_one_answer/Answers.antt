use Rattle.ps_text.proofs.Excluding.{one_answer}
use Rattle.ps_text.proofs.laws.bytes_have_one_answer.Goals as goal

pub returns : goal.returns
returns c = one_answer
