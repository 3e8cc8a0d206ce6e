use Rattle.std.proofs.Common.{◌≡◌, ◌++◌, length, All}
use Rattle.ps_log.specs.GoalNumbers.{pairs_from, HasLiteral}
use Rattle.ps_log.proofs.goal_parts.terms.Given as goal

abbrev pub invariant-loop-rest : goal.invariant-loop-rest
invariant-loop-rest l = record {
  same : pairs_from l.numbers ≡ l.terms ++ pairs_from l.rest;
  fit : All HasLiteral l.terms;
}

abbrev pub decreases-loop-rest : goal.decreases-loop-rest
decreases-loop-rest l = length l.rest
