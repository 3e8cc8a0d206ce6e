use Rattle.ps_wcnf.proofs.Building.{AreBuilt}
use Rattle.ps_wcnf.proofs.form.add_softs.Given as goal

abbrev pub invariant-loop-clause : goal.invariant-loop-clause
invariant-loop-clause l = AreBuilt l.initial.form l.first l.soft l.clause-index l.form l.literals l.n
