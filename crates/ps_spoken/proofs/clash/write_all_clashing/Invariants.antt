use Rattle.std.proofs.Common.{◌≡◌, ◌++◌, take}
use Rattle.ps_spoken.specs.Clashes.{clash_texts}
use Rattle.ps_spoken.proofs.clash.write_all_clashing.Given as goal

abbrev pub invariant-loop-sentence : goal.invariant-loop-sentence
invariant-loop-sentence l = l.out.items ≡ l.fn.out.items ++ clash_texts l.problem l.lines (take l.sentence-index l.clashing)
