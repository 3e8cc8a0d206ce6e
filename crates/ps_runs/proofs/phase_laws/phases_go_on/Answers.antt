use Rattle.ps_runs.proofs.GoingOn as going
use Rattle.ps_runs.proofs.Licensing as there
use Rattle.ps_runs.proofs.Progress as progress
use Rattle.ps_runs.proofs.phase_laws.phases_go_on.Goals as goal

pub returns : goal.returns
returns c = record {
  go_on = record { begun = going.begun; settled = going.settled_goes_on; fresh = going.priced_fresh; priced = going.priced_goes_on };
  pivots = record { moving = progress.moving_after; fewer = progress.fewer_left };
  stages = record { feasible = there.feasible_there; resting = there.resting_there; moving = there.moving_there };
}
