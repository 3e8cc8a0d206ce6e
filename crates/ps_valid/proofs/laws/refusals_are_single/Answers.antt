use Rattle.ps_valid.proofs.SingleFaults.{one_refused}
use Rattle.ps_valid.proofs.laws.refusals_are_single.Goals as goal

pub returns : goal.returns
returns c = record { single = one_refused }
