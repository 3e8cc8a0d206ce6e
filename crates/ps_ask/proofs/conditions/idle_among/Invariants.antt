use Rattle.ps_ask.specs.Conditions.{AreIdleWarnings}
use Rattle.ps_ask.proofs.conditions.idle_among.Given as goal

abbrev pub invariant-loop-place : goal.invariant-loop-place
invariant-loop-place g l = AreIdleWarnings l.trials l.noted
