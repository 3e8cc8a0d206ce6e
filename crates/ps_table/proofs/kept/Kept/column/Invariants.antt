use Rattle.std.proofs.Common.{◌≡◌, ◌<◌, ℕ, length, get_or}
use Rattle.ps_meaning.specs.Rational.{zero_q}
use Rattle.ps_table.specs.Grids.{cell_in}
use Rattle.ps_table.proofs.kept.Kept.column.Given as goal

abbrev pub invariant-loop-row : goal.invariant-loop-row
invariant-loop-row l = record {
  count : length l.made.items ≡ l.row;
  value : (k : ℕ) → k < l.row → get_or l.made.items k zero_q ≡ cell_in l.self k l.column;
}
