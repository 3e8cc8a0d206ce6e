use Rattle.std.proofs.Common.{◌≡◌, ◌++◌, take}
use Rattle.ps_canonical.specs.Lines.{sentence_lines}
use Rattle.ps_canonical.proofs.writing.sentences.Given as goal

abbrev pub invariant-loop-sentence : goal.invariant-loop-sentence
invariant-loop-sentence l = l.out.items ≡ l.fn.out.items ++ sentence_lines l.problem (take l.sentence-index l.problem.sentences)
