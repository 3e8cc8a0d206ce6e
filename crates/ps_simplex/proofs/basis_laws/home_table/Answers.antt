use Rattle.std.proofs.Common.{suc, refl, arith}
use Rattle.ps_simplex.proofs.Columns.{stands_new}
use Rattle.ps_simplex.proofs.basis_laws.home_table.Goals as goal

pub returns : goal.returns
returns c = record { stands = λ n A X basic h a first. stands_new n (suc n) A X basic h (omega arith) a (λ i j k l. first.entries i j k (omega arith)) first.basics refl }
