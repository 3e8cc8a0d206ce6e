use Rattle.std.proofs.Common.{◌≡◌, ◌++◌, take}
use Rattle.ps_spoken.specs.Clashes.{rest_texts}
use Rattle.ps_spoken.proofs.rests.write_rests.Given as goal

abbrev pub invariant-loop-sentence : goal.invariant-loop-sentence
invariant-loop-sentence l = l.out.items ≡ l.fn.out.items ++ rest_texts (take l.sentence-index l.clashing)
