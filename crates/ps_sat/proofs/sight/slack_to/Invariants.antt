use Rattle.std.proofs.Common.{◌≡◌, ◌≤◌, length}
use Rattle.ps_pb.specs.Constraints.{slack}
use Rattle.ps_sat.specs.Going.{values_to}
use Rattle.ps_sat.proofs.Sighted.{AreAboveFrom}
use Rattle.ps_sat.proofs.sight.slack_to.Given as goal

abbrev pub invariant-back : goal.invariant-back
invariant-back l = record {
  within : l.left ≤ length l.seen.entries;
  slack_is : l.slack ≡ slack l.goal (values_to l.seen l.left);
  above : AreAboveFrom l.seen l.left l.most;
}

abbrev pub decreases-back : goal.decreases-back
decreases-back l = l.left
