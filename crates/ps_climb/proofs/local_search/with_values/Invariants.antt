use Rattle.std.proofs.Common.{◌≡◌, length}
use Rattle.ps_climb.proofs.local_search.with_values.Given as goal

abbrev pub invariant-loop-atom : goal.invariant-loop-atom
invariant-loop-atom l = length l.world ≡ l.atom
