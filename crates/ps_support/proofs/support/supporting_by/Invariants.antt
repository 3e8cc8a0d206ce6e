use Rattle.ps_support.proofs.Found.{IsFoundTo}
use Rattle.ps_support.proofs.support.supporting_by.Given as goal

abbrev pub invariant-loop-i : goal.invariant-loop-i
invariant-loop-i l = IsFoundTo l.problem l.side l.query l.dual l.lines l.i l.found.items
