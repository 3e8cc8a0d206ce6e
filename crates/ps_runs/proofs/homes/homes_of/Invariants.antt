use Rattle.std.proofs.Common.{◌≡◌, take}
use Rattle.ps_runs.specs.Columns.{homes_over}
use Rattle.ps_runs.proofs.homes.homes_of.Given as goal

abbrev pub invariant-loop-row : goal.invariant-loop-row
invariant-loop-row l = l.homes.items ≡ homes_over (take l.row-index l.rows)
