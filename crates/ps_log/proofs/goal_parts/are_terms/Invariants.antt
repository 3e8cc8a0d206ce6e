use Rattle.std.proofs.Common.{◌≡◌, length}
use Rattle.ps_log.specs.GoalNumbers.{are_terms}
use Rattle.ps_log.proofs.goal_parts.are_terms.Given as goal

abbrev pub invariant-loop-rest : goal.invariant-loop-rest
invariant-loop-rest l = are_terms l.numbers ≡ are_terms l.rest

abbrev pub decreases-loop-rest : goal.decreases-loop-rest
decreases-loop-rest l = length l.rest
