use Rattle.std.proofs.Common.{◌≤◌, ◌*◌, length}
use Rattle.ps_io.specs.Lines.{text_of}
use Rattle.ps_text_tests.proofs.streams.write_long_lines.Given as goal

abbrev pub invariant-loop-i : goal.invariant-loop-i
invariant-loop-i g l = length (text_of l.lines) ≤ 64 * l._i
