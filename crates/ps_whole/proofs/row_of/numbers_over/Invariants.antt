use Rattle.std.proofs.Common.{suc}
use Rattle.ps_whole.specs.Columns.{AreNumbersTo}
use Rattle.ps_whole.specs.Rows.{IsOver}
use Rattle.ps_whole.proofs.row_of.numbers_over.Given as goal

abbrev pub invariant-loop-m : goal.invariant-loop-m
invariant-loop-m l = AreNumbersTo (IsOver l.entries l.under) (suc l.m) l.made.items
