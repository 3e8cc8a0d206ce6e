use Rattle.std.proofs.Common.{◌≡◌, take, map}
use Rattle.ps_runs.specs.Columns.{home_cost}
use Rattle.ps_runs.proofs.costs.home_costs.Given as goal

abbrev pub invariant-loop-row : goal.invariant-loop-row
invariant-loop-row l = l.costs ≡ map (home_cost l.phase) (take l.row l.table.kinds)
