use Rattle.std.proofs.Common.{◌≡◌, ◌-◌, ◌≤◌}
use Rattle.ps_sat.specs.Rooms.{room_of}
use Rattle.ps_sat.specs.Going.{HasFollowed}
use Rattle.ps_sat.proofs.going.follow.Given as goal

abbrev pub invariant-on : goal.invariant-on
invariant-on l = record {
  followed : HasFollowed l.known l.initial.w l.initial.trail l.w l.trail l.done;
  grows : l.initial.done ≤ l.done;
  room : room_of l.w ≡ room_of l.initial.w;
}

abbrev pub decreases-on : goal.decreases-on
decreases-on l = l.initial.trail.variables - l.done
