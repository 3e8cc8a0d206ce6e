use Rattle.ps_whole.specs.Pivots.{IsPivotedTo}
use Rattle.ps_whole.proofs.rows.Whole.push_rows.Given as goal

abbrev pub invariant-loop-i : goal.invariant-loop-i
invariant-loop-i l = IsPivotedTo l.self l.p l.column l.i l.numbers.items l.unders.items
