use Rattle.std.proofs.Common.{length}
use Rattle.ps_reader.specs.Cursor.{words_in}
use Rattle.ps_reader.specs.Rows.{IsNumbered}
use Rattle.ps_reader.proofs.rows.are_numbers.Given as goal

abbrev pub invariant-loop-left : goal.invariant-loop-left
invariant-loop-left l = record {
  all : IsNumbered (words_in l.left) → IsNumbered (words_in l.words);
  left : IsNumbered (words_in l.words) → IsNumbered (words_in l.left);
}

abbrev pub decreases-loop-left : goal.decreases-loop-left
decreases-loop-left l = length (words_in l.left)
