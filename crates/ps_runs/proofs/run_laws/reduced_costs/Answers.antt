use Rattle.ps_runs.proofs.Combination.{gain_is, multiple_positive, above_priced}
use Rattle.ps_runs.proofs.run_laws.reduced_costs.Goals as goal

pub returns : goal.returns
returns c = record { prices = record { multiple = gain_is; positive = multiple_positive; above = above_priced } }
