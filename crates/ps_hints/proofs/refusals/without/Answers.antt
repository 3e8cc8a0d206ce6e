use Rattle.std.proofs.Common.{[]}
use Rattle.ps_hints.proofs.Blanks.{same, more}
use Rattle.ps_hints.proofs.refusals.without.Goals as goal

pub loop-offset-init : goal.loop-offset-init
loop-offset-init c = rw c.new-left.ensures.items (same [])

pub loop-offset-preserved : goal.loop-offset-preserved
loop-offset-preserved c = rw c.in_ok-push.ensures.items
    (more c.args.text.now c.loop-offset.left.items c.loop-offset.offset _ c.loop-offset-test.true c.loop-offset.invariant c.byte_without.ensures)
