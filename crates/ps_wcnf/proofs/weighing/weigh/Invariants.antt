use Rattle.ps_wcnf.proofs.Weighed.{AreWeighed}
use Rattle.ps_wcnf.proofs.weighing.weigh.Given as goal

abbrev pub invariant-loop-clause : goal.invariant-loop-clause
invariant-loop-clause l = AreWeighed l.values l.soft l.clause-index l.costs l.gains
