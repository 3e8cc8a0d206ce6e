use Rattle.ps_claims.proofs.Valid.{never_above}
use Rattle.ps_claims.proofs.claim_laws.refuted_goals_bound_combinations.Goals as goal

pub returns : goal.returns
returns c = record { refuted = never_above }
