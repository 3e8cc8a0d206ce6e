use Rattle.ps_text.proofs.Derived.{steps}
use Rattle.ps_text.proofs.laws.derivations_take_tokens.Goals as goal

pub returns-clause-next : goal.returns-clause-next
returns-clause-next c = steps
