use Rattle.ps_claims.proofs.Tight.{lower-tight, upper-tight}
use Rattle.ps_claims.proofs.entailment_laws.reached_bounds_are_tight.Goals as goal

pub returns-clause-lower : goal.returns-clause-lower
returns-clause-lower c = lower-tight

pub returns-clause-upper : goal.returns-clause-upper
returns-clause-upper c = upper-tight
