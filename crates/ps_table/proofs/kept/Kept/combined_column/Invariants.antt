use Rattle.std.proofs.Common.{◌≡◌, ◌<◌, ℕ, length, get_or}
use Rattle.ps_meaning.specs.Rational.{zero_q}
use Rattle.ps_table.specs.Places.{IsNarrow}
use Rattle.ps_table.specs.Grids.{combined_in, GridColumnPlaces}
use Rattle.ps_table.proofs.kept.Kept.combined_column.Given as goal

abbrev pub invariant-loop-i : goal.invariant-loop-i
invariant-loop-i l = record {
  count : length l.made.items ≡ l.i;
  value : (k : ℕ) → k < l.i → get_or l.made.items k zero_q ≡ combined_in l.self l.entries k;
  narrow : (k : ℕ) → k < l.i → IsNarrow (GridColumnPlaces l.self l.entries l.number k);
}
