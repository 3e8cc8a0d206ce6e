use Rattle.std.proofs.Common.{◌≤◌}
use Rattle.ps_hints.proofs.place.end_of_tokens.Given as goal

abbrev pub invariant-loop-offset : goal.invariant-loop-offset
invariant-loop-offset l = l.end ≤ l.offset
