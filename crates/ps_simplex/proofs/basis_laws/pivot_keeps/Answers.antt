use Rattle.ps_simplex.proofs.PivotKeeps.{stands_kept}
use Rattle.ps_simplex.proofs.basis_laws.pivot_keeps.Goals as goal

pub returns : goal.returns
returns c = record { stands = λ n w p q A X Y old new can. stands_kept n w p q A X Y old new can.homes can.basics can.row can.column can.entry }
