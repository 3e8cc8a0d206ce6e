use Rattle.std.proofs.Common.{length}
use Rattle.ps_lex.specs.Passing.{TakesLetters}
use Rattle.ps_lex.proofs.word.Word.take.Given as goal

abbrev pub invariant-loop-left : goal.invariant-loop-left
invariant-loop-left l = TakesLetters l.fn.self l.bytes l.self l.left

abbrev pub decreases-loop-left : goal.decreases-loop-left
decreases-loop-left l = length l.left
