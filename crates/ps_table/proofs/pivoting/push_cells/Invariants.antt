use Rattle.ps_table.specs.Changes.{IsUpToRow}
use Rattle.ps_table.proofs.pivoting.push_cells.Given as goal

abbrev pub invariant-loop-row : goal.invariant-loop-row
invariant-loop-row l = IsUpToRow l.grid l.pivot l.row l.column l.changes.items
