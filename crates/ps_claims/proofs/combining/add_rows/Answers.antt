use Rattle.std.proofs.Common.{pos}
use Rattle.ps_claims.proofs.CombinationSums.{added-none, added-fits, added-next, added-all}
use Rattle.ps_claims.proofs.combining.add_rows.Goals as goal

pub loop-i-init : goal.loop-i-init
loop-i-init c = added-none c.args.sum.now c.args.multipliers.now c.args.rows.now c.requires.fits

pub add_row-requires-clause-fits : goal.add_row-requires-clause-fits
add_row-requires-clause-fits c = added-fits c.args.sum.now c.args.multipliers.now c.args.rows.now c.loop-i.i c.loop-i.sum c.loop-i-test.true c.requires.few c.loop-i.invariant

pub loop-i-preserved : goal.loop-i-preserved
loop-i-preserved c = added-next c.args.sum.now c.args.multipliers.now c.args.rows.now c.loop-i.i c.loop-i.sum c.add_row.new.sum (pos 0) c.index-rows-i.result
    (rw (← c.index-rows-i.is) c.in_ok-add_row.ensures) c.loop-i-test.true c.requires.lengths c.requires.small c.requires.rows c.loop-i.invariant

pub returns : goal.returns
returns c = added-all c.args.sum.now c.args.multipliers.now c.args.rows.now c.loop-i.i c.loop-i.sum c.loop-i-test.false c.requires.lengths c.loop-i.invariant
