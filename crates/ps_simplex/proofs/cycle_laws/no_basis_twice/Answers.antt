use Rattle.ps_simplex.proofs.Twice as twice
use Rattle.ps_simplex.proofs.cycle_laws.no_basis_twice.Goals as goal

pub returns : goal.returns
returns c = record { none = twice.no_basis_twice }
