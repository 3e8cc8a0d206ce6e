use Rattle.ps_claims.proofs.CombinationSums.{IsAdded}
use Rattle.ps_claims.proofs.combining.add_rows.Given as goal

abbrev pub invariant-loop-i : goal.invariant-loop-i
invariant-loop-i l = IsAdded l.initial.sum l.multipliers l.rows l.i l.sum
