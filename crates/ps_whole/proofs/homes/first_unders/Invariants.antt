use Rattle.ps_whole.specs.Homes.{AreOnesTo}
use Rattle.ps_whole.proofs.homes.first_unders.Given as goal

abbrev pub invariant-loop-k : goal.invariant-loop-k
invariant-loop-k l = AreOnesTo l.k l.made.items
