use Rattle.std.proofs.Common.{arith}
use Rattle.ps_learn.proofs.Pushing.{new-trail}
use Rattle.ps_learn.proofs.trail.Trail.new.Goals as goal

pub invariant_of-result : goal.invariant_of-result
invariant_of-result c = rw c.in_ok-new.ensures (new-trail c.args.variables c.in_ok-empty_slots.field-0.items c.in_ok-empty_slots.ensures (omega (arith, c.ranges.variables.fits)))
