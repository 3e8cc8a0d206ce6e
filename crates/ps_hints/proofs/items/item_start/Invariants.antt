use Rattle.std.proofs.Common.{◌≤◌}
use Rattle.ps_hints.proofs.items.item_start.Given as goal

abbrev pub invariant-loop-offset : goal.invariant-loop-offset
invariant-loop-offset l = l.start ≤ l.offset
