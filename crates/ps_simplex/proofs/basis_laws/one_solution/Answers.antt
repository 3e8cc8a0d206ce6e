use Rattle.ps_simplex.proofs.Agreeing as agreeing
use Rattle.ps_simplex.proofs.basis_laws.one_solution.Goals as goal

pub returns : goal.returns
returns c = record { same = agreeing.one_solution }
