use Rattle.std.proofs.Common.{◌≡◌, ◌<◌, ℕ}
use Rattle.ps_table.specs.Grids.{cell_in, sum_in, IsNarrowPart}
use Rattle.ps_table.proofs.kept.Kept.combined_fractions.Given as goal

abbrev pub invariant-loop-m : goal.invariant-loop-m
invariant-loop-m l = record {
  value : l.sum ≡ sum_in l.self l.entries l.i l.m;
  narrow : (k : ℕ) → k < l.m → IsNarrowPart (cell_in l.self) l.entries l.i k;
}
