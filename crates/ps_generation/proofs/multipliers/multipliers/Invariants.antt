use Rattle.std.proofs.Common.{◌≡◌, ◌<◌, ℕ, get_or, length}
use Rattle.ps_meaning.specs.Rational.{zero_q}
use Rattle.ps_table.specs.Pricing.{multiplier_of}
use Rattle.ps_generation.specs.Rows.{AreHomesNarrow}
use Rattle.ps_generation.proofs.multipliers.multipliers.Given as goal

abbrev pub invariant-loop-row : goal.invariant-loop-row
invariant-loop-row l = record {
  count : length l.made ≡ l.row;
  each : (m : ℕ) → m < l.row → get_or l.made m zero_q ≡ multiplier_of l.table l.costs m;
  narrow : AreHomesNarrow l.table l.costs l.row;
}
