use Rattle.ps_simplex.proofs.Few as few
use Rattle.ps_simplex.proofs.cycle_laws.few_pivots.Goals as goal

pub returns : goal.returns
returns c = record { few = few.few_pivots }
