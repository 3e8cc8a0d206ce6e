use Rattle.ps_claims.proofs.Valid.{valid-right}
use Rattle.ps_claims.proofs.claim_laws.valid_answers_are_right.Goals as goal

pub returns : goal.returns
returns c = record { right = valid-right }
