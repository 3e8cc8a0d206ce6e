use Rattle.ps_text.proofs.Excluding.{one_refusal}
use Rattle.ps_text.proofs.laws.one_refusal_at_most.Goals as goal

pub returns : goal.returns
returns c = one_refusal
