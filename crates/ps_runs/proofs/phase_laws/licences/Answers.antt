use Rattle.ps_runs.proofs.Licensing as due
use Rattle.ps_runs.proofs.phase_laws.licences.Goals as goal

pub returns : goal.returns
returns c = record {
  licensed = record { settling = due.settling_due; multiplier = due.multiplier_due; dual = due.dual_due; model = due.model_due };
}
