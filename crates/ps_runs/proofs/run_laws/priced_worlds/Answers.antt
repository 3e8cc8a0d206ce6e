use Rattle.ps_runs.proofs.Pricing as pricing
use Rattle.ps_runs.proofs.run_laws.priced_worlds.Goals as goal

pub returns : goal.returns
returns c = record { moving = record { fresh = pricing.priced_is_new; moving = pricing.priced_moves } }
