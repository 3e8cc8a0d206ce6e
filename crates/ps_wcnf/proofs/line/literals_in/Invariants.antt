use Rattle.std.proofs.Common.{length}
use Rattle.ps_wcnf.specs.Splitting.{words_of}
use Rattle.ps_wcnf.proofs.Closing.{IsSoFar}
use Rattle.ps_wcnf.proofs.line.literals_in.Given as goal

abbrev pub invariant-loop-word : goal.invariant-loop-word
invariant-loop-word l = IsSoFar (words_of l.text) (words_of l.rest) l.large l.lits

abbrev pub decreases-loop-word : goal.decreases-loop-word
decreases-loop-word l = length l.rest
