use Rattle.std.proofs.Common.{◌≡◌, take}
use Rattle.ps_table.proofs.event.trace_copy.Given as goal

abbrev pub invariant-loop-event : goal.invariant-loop-event
invariant-loop-event l = l.copy ≡ take l.event-index l.events
