use Rattle.ps_runs.proofs.EnoughPivots.{answer_enough}
use Rattle.ps_runs.proofs.pivot_limit.enough.Goals as goal

pub returns : goal.returns
returns c = record { enough = answer_enough }
