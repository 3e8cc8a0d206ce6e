use Rattle.std.proofs.Common.{◌≡◌, length, take}
use Rattle.ps_table.specs.Changes.{written}
use Rattle.ps_table.proofs.change.write_all.Given as goal

abbrev pub invariant-loop-change : goal.invariant-loop-change
invariant-loop-change l = record {
  written : l.cells.items ≡ written l.fn.cells.items (take l.change-index l.changes);
  count : length l.cells.items ≡ length l.fn.cells.items;
}
