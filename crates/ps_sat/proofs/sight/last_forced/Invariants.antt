use Rattle.std.proofs.Common.{◌≤◌, length}
use Rattle.ps_sat.proofs.Slacks.{AreUnforcedFrom}
use Rattle.ps_sat.proofs.sight.last_forced.Given as goal

abbrev pub invariant-back : goal.invariant-back
invariant-back l = record {
  within : l.left ≤ length l.terms;
  unforced : AreUnforcedFrom l.room l.a l.terms l.left;
}

abbrev pub decreases-back : goal.decreases-back
decreases-back l = l.left
