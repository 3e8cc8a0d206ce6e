use Rattle.ps_claims.proofs.Duality.{shows_nothing, shows_nothing_kept, shows_lower, shows_upper}
use Rattle.ps_claims.proofs.claim_laws.duals_bound_probabilities.Goals as goal

pub returns-clause-nothing : goal.returns-clause-nothing
returns-clause-nothing c = shows_nothing

pub returns-clause-lower : goal.returns-clause-lower
returns-clause-lower c = shows_lower

pub returns-clause-upper : goal.returns-clause-upper
returns-clause-upper c = shows_upper

pub returns-clause-kept : goal.returns-clause-kept
returns-clause-kept c = shows_nothing_kept
