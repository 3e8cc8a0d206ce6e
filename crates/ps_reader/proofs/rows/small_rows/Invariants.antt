use Rattle.std.proofs.Common.{length}
use Rattle.ps_reader.specs.Cursor.{words_in}
use Rattle.ps_reader.proofs.RowWords.{RowsSoFar}
use Rattle.ps_reader.proofs.rows.small_rows.Given as goal

abbrev pub invariant-loop-left : goal.invariant-loop-left
invariant-loop-left l = RowsSoFar (words_in l.words) (words_in l.left) l.rows

abbrev pub decreases-loop-left : goal.decreases-loop-left
decreases-loop-left l = length (words_in l.left)
