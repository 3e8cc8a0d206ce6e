use Rattle.std.proofs.Common.{◌≡◌, ◌+◌, ◌*◌, ◌≤◌, drop}
use Rattle.ps_ask.proofs.OpenParts.{parts_open}
use Rattle.ps_ask.proofs.answered.open_parts.Given as goal

abbrev pub invariant-loop-part : goal.invariant-loop-part
invariant-loop-part l = record {
  rest : parts_open l.parts ≡ l.total + parts_open (drop l.part-index l.parts);
  few : l.total ≤ 2 * l.part-index;
}
