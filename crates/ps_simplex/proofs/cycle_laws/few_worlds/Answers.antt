use Rattle.ps_simplex.proofs.Worlds as worlds
use Rattle.ps_simplex.proofs.cycle_laws.few_worlds.Goals as goal

pub returns : goal.returns
returns c = record { few = worlds.few_worlds }
