use Rattle.ps_claims.proofs.Claims.{valid-claims, claims-valid, valid_accepted}
use Rattle.ps_claims.proofs.Decided.{answer_cases}
use Rattle.ps_claims.proofs.claim_laws.valid_claims_have_no_fault.Goals as goal

pub returns-clause-claims : goal.returns-clause-claims
returns-clause-claims c = λ p a. (valid-claims p a, (λ h. claims-valid p a h.0 h.1))

pub returns-clause-faultless : goal.returns-clause-faultless
returns-clause-faultless c = valid_accepted

pub returns-clause-either : goal.returns-clause-either
returns-clause-either c = answer_cases
