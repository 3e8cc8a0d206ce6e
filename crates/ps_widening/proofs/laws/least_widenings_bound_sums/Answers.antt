use Rattle.ps_widening.proofs.Sums.{sums-bounded}
use Rattle.ps_widening.proofs.laws.least_widenings_bound_sums.Goals as goal

pub returns : goal.returns
returns c = record { bound = sums-bounded }
