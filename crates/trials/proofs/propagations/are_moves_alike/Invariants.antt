use Rattle.std.proofs.Common.{◌≡◌}
use Rattle.ps_sat.specs.Keeping.{IsInStep}
use Rattle.trials.proofs.propagations.are_moves_alike.Given as goal

abbrev pub invariant-loop : goal.invariant-loop
invariant-loop l = record {
  variables : l.trail.variables ≡ l.kept.variables;
  in_step : IsInStep l.kept l.trail;
}
