use Rattle.ps_whole.specs.Columns.{AreNumbersTo, IsNumberIn}
use Rattle.ps_whole.proofs.rows.Whole.column.Given as goal

abbrev pub invariant-loop-i : goal.invariant-loop-i
invariant-loop-i l = AreNumbersTo (IsNumberIn l.self l.column) l.i l.made.items
