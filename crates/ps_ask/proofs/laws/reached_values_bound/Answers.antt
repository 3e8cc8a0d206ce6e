use Rattle.ps_ask.proofs.Bounds.{reached_bound}
use Rattle.ps_ask.proofs.laws.reached_values_bound.Goals as goal

pub returns : goal.returns
returns c = record { bound = reached_bound }
