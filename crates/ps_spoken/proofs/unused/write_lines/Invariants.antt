use Rattle.std.proofs.Common.{◌≡◌, ◌++◌, take}
use Rattle.ps_spoken.specs.Unused.{unused_lines}
use Rattle.ps_spoken.proofs.unused.write_lines.Given as goal

abbrev pub invariant-loop-sentence : goal.invariant-loop-sentence
invariant-loop-sentence l = l.out.items ≡ l.fn.out.items ++ unused_lines l.problem l.lines (take l.sentence-index l.sentences)
