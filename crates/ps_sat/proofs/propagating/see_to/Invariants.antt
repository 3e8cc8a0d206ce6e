use Rattle.std.proofs.Common.{◌≡◌, ◌≤◌, ◌-◌, length}
use Rattle.ps_sat.specs.Sights.{IsSeenOf}
use Rattle.ps_sat.proofs.propagating.see_to.Given as goal

abbrev pub invariant-see : goal.invariant-see
invariant-see l = record {
  goal : l.sight.goal ≡ l.initial.sight.goal;
  seen : IsSeenOf l.sight.seen l.trail;
  grows : length l.initial.sight.seen.entries ≤ length l.sight.seen.entries;
}

abbrev pub decreases-see : goal.decreases-see
decreases-see l = l.done - length l.sight.seen.entries
