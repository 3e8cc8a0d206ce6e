use Rattle.ps_whole.specs.Homes.{AreHomesTo}
use Rattle.ps_whole.proofs.homes.first_numbers.Given as goal

abbrev pub invariant-loop-k : goal.invariant-loop-k
invariant-loop-k l = AreHomesTo l.rows l.k l.made.items
