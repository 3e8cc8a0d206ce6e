use Rattle.std.proofs.Common.{◌≡◌, ◌<◌, ℕ, suc}
use Rattle.ps_table.specs.Grids.{IsSumNarrowAt}
use Rattle.ps_table.specs.Pricing.{carried_to}
use Rattle.ps_table.proofs.table.Table.add_rows.Given as goal

abbrev pub invariant-loop-row : goal.invariant-loop-row
invariant-loop-row l = record {
  value : l.sum ≡ carried_to l.self l.costs (suc l.home) l.row;
  narrow : (i : ℕ) → i < l.row → IsSumNarrowAt l.self l.costs l.home i;
}
