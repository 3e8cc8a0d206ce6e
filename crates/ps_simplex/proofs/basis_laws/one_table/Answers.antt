use Rattle.ps_simplex.proofs.OneTable as tables
use Rattle.ps_simplex.proofs.basis_laws.one_table.Goals as goal

pub returns : goal.returns
returns c = record { same = tables.one_table }
