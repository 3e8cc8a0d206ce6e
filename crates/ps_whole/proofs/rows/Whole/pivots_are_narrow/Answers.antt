use Rattle.ps_whole.proofs.NarrowPivots.{narrow_pivot}
use Rattle.ps_whole.proofs.rows.Whole.pivots_are_narrow.Goals as goal

pub returns : goal.returns
returns c = record { narrow = λ i j. narrow_pivot c.args.self.now c.rows.ensures.whole c.args.p c.args.column.now i j c.requires.pivot.numbers.small c.requires.pivot.not_zero }
