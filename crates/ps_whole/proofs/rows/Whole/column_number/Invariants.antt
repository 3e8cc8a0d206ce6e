use Rattle.ps_whole.specs.Columns.{IsPartSum}
use Rattle.ps_whole.proofs.rows.Whole.column_number.Given as goal

abbrev pub invariant-loop-m : goal.invariant-loop-m
invariant-loop-m l = IsPartSum l.self l.entries l.i l.m l.sum
