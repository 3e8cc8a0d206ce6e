use Rattle.std.proofs.Common.{◌≡◌, ◌+◌, ◌≤◌}
use Rattle.ps_simplex.specs.Count.{choose}
use Rattle.ps_simplex.proofs.enough.ways_within_limit.Given as goal

abbrev pub invariant-loop-chosen : goal.invariant-loop-chosen
invariant-loop-chosen l = record {
  ways : l.ways ≡ choose (l.worlds + l.chosen) l.chosen;
  small : l.ways ≤ 333333;
}
