use Rattle.std.proofs.Common.{◌≡◌, take}
use Rattle.ps_runs.specs.Columns.{costs_over}
use Rattle.ps_runs.proofs.costs.world_costs.Given as goal

abbrev pub invariant-loop-place : goal.invariant-loop-place
invariant-loop-place l = l.costs ≡ costs_over l.phase l.formulas l.both (take l.place l.pool)
