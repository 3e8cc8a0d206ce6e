use Rattle.std.proofs.Common.{◌<◌, ℕ}
use Rattle.ps_table.specs.Grids.{IsScaleNarrow}
use Rattle.ps_table.specs.Changes.{IsUpToColumn}
use Rattle.ps_table.proofs.pivoting.pivot_changes.Given as goal

abbrev pub invariant-loop-column : goal.invariant-loop-column
invariant-loop-column l = record {
  upto : IsUpToColumn l.grid l.pivot l.column l.changes.items;
  narrow : (k : ℕ) → k < l.column → IsScaleNarrow l.grid l.pivot k;
}
