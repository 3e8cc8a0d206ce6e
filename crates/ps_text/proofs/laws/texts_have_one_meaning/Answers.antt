use Rattle.ps_text.proofs.Excluding.{one_meaning}
use Rattle.ps_text.proofs.laws.texts_have_one_meaning.Goals as goal

pub returns : goal.returns
returns c = one_meaning
