use Rattle.std.proofs.Common.{◌≡◌}
use Rattle.ps_pb.specs.Steps.{known_of}
use Rattle.ps_learn.specs.Trails.{values, unset_count, AreReasons}
use Rattle.ps_learn.specs.Rest.{IsLonger}
use Rattle.ps_learn.specs.Resting.{AreRested, AreOfAtoms}
use Rattle.ps_sat.specs.Keeping.{IsInStep, IsOver}
use Rattle.ps_sat.proofs.advancing.advance.Given as goal

abbrev pub invariant-on : goal.invariant-on
invariant-on l = record {
  over : IsOver l.initial.kept l.kept;
  in_step : IsInStep l.kept l.trail;
  same : l.trail.variables ≡ l.initial.trail.variables;
  longer : IsLonger l.initial.trail.entries l.trail.entries;
  reasons : AreReasons l.trail.variables (known_of l.initial.kept.known) l.trail.entries;
  rested : AreRested l.base.variables (known_of l.initial.kept.known) l.trail.entries;
  atoms : AreOfAtoms l.base l.trail.entries;
}

abbrev pub decreases-on : goal.decreases-on
decreases-on l = unset_count (values l.trail)
