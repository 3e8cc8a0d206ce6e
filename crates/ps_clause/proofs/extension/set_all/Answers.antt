use Rattle.std.proofs.Common.{◌∙◌, arith}
use Rattle.ps_clause.proofs.Assigned.{all_set}
use Rattle.ps_clause.proofs.extension.set_all.Goals as goal

pub returns : goal.returns
returns c = c.loop-place.invariant ∙ all_set c.loop-place.place c.args.truths.now (omega (arith, c.loop-place-test.false))
