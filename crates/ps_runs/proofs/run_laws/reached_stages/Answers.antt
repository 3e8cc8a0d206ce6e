use Rattle.ps_runs.proofs.Reached.{one_table, reached_pool, priced_fresh}
use Rattle.ps_runs.proofs.run_laws.reached_stages.Goals as goal

pub returns : goal.returns
returns c = record { reached = record { table = one_table; pool = reached_pool; fresh = priced_fresh } }
