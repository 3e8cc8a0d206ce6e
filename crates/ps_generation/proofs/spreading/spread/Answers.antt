use Rattle.ps_generation.proofs.AllBounds.{spread-next}
use Rattle.ps_generation.proofs.spreading.spread.Goals as goal

pub loop-i-preserved : goal.loop-i-preserved
loop-i-preserved c =
    spread-next c.args.flags.now c.args.rows.now c.loop-i.all c.push_number.new.all c.loop-i.i c.loop-i.next c.in_ok-next.next c.loop-i-test.true c.in_ok-next.ensures.pushed
    c.in_ok-next.ensures.next c.loop-i.invariant
