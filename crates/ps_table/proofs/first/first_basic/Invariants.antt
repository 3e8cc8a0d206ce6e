use Rattle.std.proofs.Common.{◌≡◌, ◌<◌, ℕ, get_or, length}
use Rattle.ps_table.specs.declared.col.Col.TheVariants.{Home}
use Rattle.ps_table.proofs.first.first_basic.Given as goal

abbrev pub invariant-loop-i : goal.invariant-loop-i
invariant-loop-i l = record {
  count : length l.made.items ≡ l.i;
  value : (k : ℕ) → k < l.i → get_or l.made.items k (Home 0) ≡ Home k;
}
