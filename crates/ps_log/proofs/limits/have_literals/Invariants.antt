use Rattle.std.proofs.Common.{All, take}
use Rattle.ps_log.specs.GoalNumbers.{HasLiteral}
use Rattle.ps_log.proofs.limits.have_literals.Given as goal

abbrev pub invariant-loop-term : goal.invariant-loop-term
invariant-loop-term l = All HasLiteral (take l.term-index l.terms)
