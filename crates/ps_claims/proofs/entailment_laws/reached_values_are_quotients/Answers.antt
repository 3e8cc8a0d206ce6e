use Rattle.ps_claims.proofs.Tight.{reached-quotient, quotient-reached}
use Rattle.ps_claims.proofs.entailment_laws.reached_values_are_quotients.Goals as goal

pub returns : goal.returns
returns c = record { reached = λ q value d e some is. (reached-quotient q value d e some is, quotient-reached q value d e some is) }
