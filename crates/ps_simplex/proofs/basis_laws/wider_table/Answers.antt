use Rattle.ps_simplex.proofs.Columns.{stands_more}
use Rattle.ps_simplex.proofs.basis_laws.wider_table.Goals as goal

pub returns : goal.returns
returns c = record { stands = λ n w A X Z basic h b more. stands_more n w A X Z basic h b more.same more.made }
