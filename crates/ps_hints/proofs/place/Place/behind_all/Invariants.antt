use Rattle.std.proofs.Common.{◌≡◌, ◌≤◌, ◌<◌, ◌+◌, ◌^◌, take, length}
use Rattle.ps_text.specs.Positions.{position_behind}
use Rattle.ps_hints.specs.Places.{position}
use Rattle.ps_hints.proofs.place.Place.behind_all.Given as goal

abbrev pub invariant-loop-byte : goal.invariant-loop-byte
invariant-loop-byte l = record {
  line : l.place.line ≤ l.byte-index + 1;
  column : l.place.column ≤ l.byte-index + 1;
  is : length l.bytes + 1 < 2 ^ 32 → position l.place ≡ position_behind (take l.byte-index l.bytes);
}
