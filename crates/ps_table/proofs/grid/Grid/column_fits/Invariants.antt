use Rattle.std.proofs.Common.{◌<◌, ℕ}
use Rattle.ps_meaning.specs.Wide.{Fits, size_limit}
use Rattle.ps_table.specs.Grids.{cell_in}
use Rattle.ps_table.proofs.grid.Grid.column_fits.Given as goal

abbrev pub invariant-loop-row : goal.invariant-loop-row
invariant-loop-row l = (i : ℕ) → i < l.row → Fits (cell_in l.self i l.column).over × ((cell_in l.self i l.column).under < size_limit)
