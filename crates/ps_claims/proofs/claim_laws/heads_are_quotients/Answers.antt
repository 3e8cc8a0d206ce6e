use Rattle.ps_claims.proofs.Tight.{ratio-quotient, quotient-ratio}
use Rattle.ps_claims.proofs.claim_laws.heads_are_quotients.Goals as goal

pub returns : goal.returns
returns c = record { head = λ value h t some. (ratio-quotient value h t some, quotient-ratio value h t some) }
