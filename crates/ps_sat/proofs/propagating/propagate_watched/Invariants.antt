use Rattle.std.proofs.Common.{◌≡◌, ◌-◌, ◌≤◌, length}
use Rattle.ps_sat.specs.Rooms.{room_of}
use Rattle.ps_sat.specs.Sights.{IsSeenOf}
use Rattle.ps_sat.specs.Going.{HasFollowed}
use Rattle.ps_sat.proofs.propagating.propagate_watched.Given as goal

abbrev pub invariant-set : goal.invariant-set
invariant-set l = record {
  followed : HasFollowed l.known l.initial.w l.initial.trail l.w l.trail l.done;
  room : room_of l.w ≡ room_of l.initial.w;
  goal : l.sight.goal ≡ l.initial.sight.goal;
  seen : IsSeenOf l.sight.seen l.trail;
  grows : length l.initial.sight.seen.entries ≤ length l.sight.seen.entries;
}

abbrev pub decreases-set : goal.decreases-set
decreases-set l = l.initial.trail.variables - length l.trail.entries
