use Rattle.std.proofs.Common.{sym, ◌∙◌, arith}
use Rattle.ps_widening.proofs.CommonUnits.{unit-next}
use Rattle.ps_widening.proofs.units.common_unit.Goals as goal

pub loop-i-preserved : goal.loop-i-preserved
loop-i-preserved c =
    let r = c.index-rows-i.result in
    let measured = c.requires.rows c.loop-i.i r c.loop-i-test.true in
    unit-next c.args.rows.now c.loop-i.i c.loop-i.unit c.in-Some.more r c.loop-i-test.true (omega (arith, measured.some)) c.loop-i.invariant
    (sym c.multiple_of.ensures ∙ c.in-Some.is)
