use Rattle.std.proofs.Common.{◌≡◌, take}
use Rattle.ps_runs.specs.Columns.{column_over}
use Rattle.ps_runs.proofs.column.column_of.Given as goal

abbrev pub invariant-loop-row : goal.invariant-loop-row
invariant-loop-row l = l.column.items ≡ column_over l.values (take l.row-index l.rows) l.fn.evidence
