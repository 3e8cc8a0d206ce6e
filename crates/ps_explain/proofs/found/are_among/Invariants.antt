use Rattle.ps_explain.specs.Steps.{AreAmongTo}
use Rattle.ps_explain.proofs.found.are_among.Given as goal

abbrev pub invariant-loop-place : goal.invariant-loop-place
invariant-loop-place l = AreAmongTo l.few l.many l.place
