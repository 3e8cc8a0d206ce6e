use Rattle.ps_check.proofs.LaterSteps.{decided_later}
use Rattle.ps_check.proofs.laws.later_steps_decide_claims.Goals as goal

pub returns : goal.returns
returns c = record { decided = decided_later }
