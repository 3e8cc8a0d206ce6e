use Rattle.ps_whole.specs.Columns.{AreNumbersTo, IsWholeSum}
use Rattle.ps_whole.proofs.rows.Whole.column_of.Given as goal

abbrev pub invariant-loop-i : goal.invariant-loop-i
invariant-loop-i l = AreNumbersTo (IsWholeSum l.self l.entries) l.i l.made.items
