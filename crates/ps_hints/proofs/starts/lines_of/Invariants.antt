use Rattle.std.proofs.Common.{◌≤◌, ◌+◌, All}
use Rattle.ps_hints.specs.Places.{IsLineOf}
use Rattle.ps_hints.proofs.starts.lines_of.Given as goal

abbrev pub invariant-loop-byte : goal.invariant-loop-byte
invariant-loop-byte l = record {
  least : 1 ≤ l.scanner.line;
  most : l.scanner.line ≤ l.byte-index + 1;
  lines : All (IsLineOf l.bytes) l.lines.items;
}
