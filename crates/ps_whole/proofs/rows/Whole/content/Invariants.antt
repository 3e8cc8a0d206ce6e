use Rattle.std.proofs.Common.{ℕ, ◌<◌, unsigned_abs}
use Rattle.std.specs.Int.{◌∣◌}
use Rattle.ps_whole.specs.Pivots.{raw_number}
use Rattle.ps_whole.proofs.rows.Whole.content.Given as goal

abbrev pub invariant-loop-column : goal.invariant-loop-column
invariant-loop-column l = record {
  positive : 0 < l.g;
  under : l.g ∣ l.base;
  over : (j : ℕ) → j < l.column → l.g ∣ unsigned_abs (raw_number l.self l.p l.i l.times l.less j);
}
