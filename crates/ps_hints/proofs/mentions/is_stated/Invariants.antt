use Rattle.std.proofs.Common.{◌≡◌, All, take, false}
use Rattle.ps_hints.specs.Warnings.{stands_in}
use Rattle.ps_hints.proofs.mentions.is_stated.Given as goal

abbrev pub invariant-loop-sentence : goal.invariant-loop-sentence
invariant-loop-sentence l = All (λ s. stands_in l.atom l.problem.nodes s ≡ false) (take l.sentence-index l.problem.sentences)
