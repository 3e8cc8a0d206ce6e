use Rattle.ps_ask.proofs.Decimals.{bounds_decimals}
use Rattle.ps_ask.proofs.laws.bounds_have_decimals.Goals as goal

pub returns : goal.returns
returns c = record { decimals = bounds_decimals }
