use Rattle.std.proofs.Common.{length, ◌≡◌}
use Rattle.ps_sat.specs.Rooms.{room_of}
use Rattle.ps_sat.specs.Watches.{list_of, spare_of}
use Rattle.ps_sat.proofs.Drained.{IsGoing}
use Rattle.ps_sat.proofs.going.drain.Given as goal

abbrev pub invariant-go : goal.invariant-go
invariant-go l = record {
  going : IsGoing l.initial.trail.variables l.known l.initial.w l.initial.trail l.w l.trail l.fn.lit l.found;
  room : room_of l.w ≡ room_of l.initial.w;
}

abbrev pub decreases-go : goal.decreases-go
decreases-go l = length (list_of l.w (spare_of l.initial.trail.variables))
