use Rattle.ps_bland.proofs.Posed.{ready_posed}
use Rattle.ps_bland.proofs.Ready.{values_added, feasible_added}
use Rattle.ps_bland.proofs.laws.ready_tables.Goals as goal

pub returns : goal.returns
returns c = record { posed = ready_posed; values = values_added; feasible = feasible_added }
