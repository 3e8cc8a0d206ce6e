use Rattle.ps_generation.proofs.AllBounds.{IsSpreadTo}
use Rattle.ps_generation.proofs.spreading.spread.Given as goal

abbrev pub invariant-loop-i : goal.invariant-loop-i
invariant-loop-i l = IsSpreadTo l.flags l.rows l.all l.i l.next
