use Rattle.std.proofs.Common.{◌+◌, ◌≤◌, length, vec_capacity}
use Rattle.ps_pb.specs.Steps.{known_of}
use Rattle.ps_sat.specs.Rooms.{HasRoomForClauses}
use Rattle.ps_sat.specs.Linking.{HasLinked}
use Rattle.ps_sat.proofs.Attached.{StayCovered}
use Rattle.ps_sat.proofs.linking.link_waiting.Given as goal

abbrev pub invariant-link : goal.invariant-link
invariant-link l = record {
  linked : HasLinked l.known l.initial.w l.initial.trail l.w l.trail;
  covered : StayCovered (known_of l.known) l.initial.w l.initial.scanned.items l.initial.waiting.items l.w l.scanned.items l.waiting.items;
  room : HasRoomForClauses l.w (length l.waiting.items);
  places : length l.scanned.items + length l.waiting.items ≤ vec_capacity l.scanned;
}

abbrev pub decreases-link : goal.decreases-link
decreases-link l = length l.waiting.items
