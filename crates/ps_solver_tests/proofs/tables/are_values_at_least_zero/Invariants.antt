use Rattle.std.proofs.Common.{◌<◌, ℕ}
use Rattle.ps_meaning.specs.Order.{IsNonneg}
use Rattle.ps_table.specs.Tableau.{entry_at}
use Rattle.ps_solver_tests.proofs.tables.are_values_at_least_zero.Given as goal

abbrev pub invariant-loop-row : goal.invariant-loop-row
invariant-loop-row l = (i : ℕ) → i < l.row → IsNonneg (entry_at l.table i 0)
