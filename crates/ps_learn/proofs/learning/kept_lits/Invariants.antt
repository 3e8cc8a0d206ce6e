use Rattle.ps_learn.proofs.Steps.{Drawn}
use Rattle.ps_learn.proofs.learning.kept_lits.Given as goal

abbrev pub invariant-loop-entry : goal.invariant-loop-entry
invariant-loop-entry l = Drawn l.trail l.marks l.entry-index l.kept l.a
