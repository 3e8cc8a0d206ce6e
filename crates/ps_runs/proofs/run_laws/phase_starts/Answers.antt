use Rattle.ps_runs.proofs.Starts as starts
use Rattle.ps_runs.proofs.run_laws.phase_starts.Goals as goal

pub returns : goal.returns
returns c = record {
  tables = record { first = starts.first_table; added = starts.added_table };
  costs = record { first = starts.first_costs; homes = starts.side_homes; lower = starts.lower_worlds; upper = starts.upper_worlds };
  row = record { homes = starts.row_homes; worlds = starts.row_worlds; costly = starts.row_costly };
}
