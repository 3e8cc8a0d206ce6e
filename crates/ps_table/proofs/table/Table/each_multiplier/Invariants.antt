use Rattle.std.proofs.Common.{◌≡◌, ◌<◌, ℕ, length, get_or}
use Rattle.ps_meaning.specs.Rational.{zero_q}
use Rattle.ps_table.specs.Pricing.{multiplier_of}
use Rattle.ps_table.specs.Places.{IsNarrow, HomePlaces}
use Rattle.ps_table.proofs.table.Table.each_multiplier.Given as goal

abbrev pub invariant-loop-row : goal.invariant-loop-row
invariant-loop-row l = record {
  count : length l.made.items ≡ l.row;
  each : (k : ℕ) → k < l.row → get_or l.made.items k zero_q ≡ multiplier_of l.self l.costs k;
  narrow : (k : ℕ) → k < l.row → IsNarrow (HomePlaces l.self l.costs k);
}
