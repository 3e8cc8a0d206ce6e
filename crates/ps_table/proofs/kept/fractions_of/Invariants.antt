use Rattle.std.proofs.Common.{◌≡◌}
use Rattle.ps_table.specs.KeptCells.{list_to, entry_in}
use Rattle.ps_table.proofs.kept.fractions_of.Given as goal

abbrev pub invariant-loop-k : goal.invariant-loop-k
invariant-loop-k l = l.made.items ≡ list_to l.k (entry_in l.whole)
