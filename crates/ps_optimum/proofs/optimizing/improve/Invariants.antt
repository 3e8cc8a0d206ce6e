use Rattle.std.proofs.Common.{◌^◌, ◌-ℤ◌, pos, unsigned_abs}
use Rattle.ps_optimum.specs.Searches.{IsHand}
use Rattle.ps_optimum.proofs.optimizing.improve.Given as goal

abbrev pub invariant-loop-hand : goal.invariant-loop-hand
invariant-loop-hand l = IsHand l.text l.hand

abbrev pub decreases-loop-hand : goal.decreases-loop-hand
decreases-loop-hand l = unsigned_abs (pos (2 ^ 90) -ℤ l.hand.gain)
