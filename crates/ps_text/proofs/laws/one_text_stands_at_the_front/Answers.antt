use Rattle.ps_text.proofs.Excluding.{one_derivation, one_front}
use Rattle.ps_text.proofs.laws.one_text_stands_at_the_front.Goals as goal

pub returns-clause-derivation : goal.returns-clause-derivation
returns-clause-derivation c = one_derivation

pub returns-clause-front : goal.returns-clause-front
returns-clause-front c = one_front
