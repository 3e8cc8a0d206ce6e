use Rattle.ps_simplex.proofs.Reduced as reduced
use Rattle.ps_simplex.proofs.cycle_laws.reduced_costs.Goals as goal

pub returns : goal.returns
returns c = record { combined = λ n w A X Y cost a b j stands hb belongs hj. reduced.reduced_along n w A X Y cost a b stands hb belongs j hj }
