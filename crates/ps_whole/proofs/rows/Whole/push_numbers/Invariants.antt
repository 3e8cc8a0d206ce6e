use Rattle.ps_whole.specs.Pivots.{raw_number, IsPushedTo}
use Rattle.ps_whole.proofs.rows.Whole.push_numbers.Given as goal

abbrev pub invariant-loop-column : goal.invariant-loop-column
invariant-loop-column l = IsPushedTo (raw_number l.self l.p l.i l.change.times l.change.less) l.change.by l.fn.made.items l.column l.made.items
