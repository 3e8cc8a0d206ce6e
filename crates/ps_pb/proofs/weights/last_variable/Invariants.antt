use Rattle.std.proofs.Common.{◌≡◌, ◌≤◌, drop}
use Rattle.std.specs.Prelude.{max}
use Rattle.ps_pb.specs.Weights.{last_variable}
use Rattle.ps_pb.proofs.weights.last_variable.Given as goal

abbrev pub invariant-loop-weight : goal.invariant-loop-weight
invariant-loop-weight l = record { so_far : max l.last (last_variable (drop l.weight-index l.weights)) ≡ last_variable l.weights; within : l.last ≤ 1024 }
