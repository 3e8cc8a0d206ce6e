use Rattle.std.proofs.Common.{◌≤◌, ◌+◌, length}
use Rattle.ps_generation.specs.Phases.{HasCome, IsInPhase}
use Rattle.ps_generation.specs.Counts.{IsBelowBound}
use Rattle.ps_generation.specs.Rounds.{IsAtRest}
use Rattle.ps_generation.proofs.phases.run_phase.Given as goal

abbrev pub invariant-loop-end : goal.invariant-loop-end
invariant-loop-end l = record {
  come : HasCome l.kind l.setting l.fn.state l.state;
  phase : IsInPhase l.kind l.setting.subject l.costs l.state;
  rests : IsAtRest l.kind l.setting.subject l.state;
  room : length l.state.pool + l.state.left ≤ length l.fn.state.pool + l.fn.state.left;
  below : IsBelowBound l.setting.subject l.fn.state.left l.state;
}

abbrev pub decreases-loop-end : goal.decreases-loop-end
decreases-loop-end l = l.state.left
