use Rattle.ps_runs.proofs.Shown.{allowed_at_end, small_at_end, nothing_head}
use Rattle.ps_runs.proofs.Totals.{total_by_rows}
use Rattle.ps_runs.proofs.Resting.{rest_signs}
use Rattle.ps_runs.proofs.Ends as ends
use Rattle.ps_runs.proofs.Weighing.{entry_of_row, no_entry}
use Rattle.ps_runs.proofs.run_laws.phase_ends.Goals as goal

pub returns : goal.returns
returns c = record {
  models = record {
    allowed = λ bounds s pool basic X atoms of t feasible pooled. allowed_at_end bounds s pool basic X of t atoms feasible pooled.different pooled.sized;
    small = small_at_end;
    total = total_by_rows;
  };
  weights = record { row = entry_of_row; none = no_entry };
  duals = record { signs = rest_signs; head = nothing_head; reached = ends.reached };
}
