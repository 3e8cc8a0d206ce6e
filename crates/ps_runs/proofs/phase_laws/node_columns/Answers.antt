use Rattle.ps_runs.proofs.NodeColumns.{column_is, homes_are, cost_is, costs_are}
use Rattle.ps_runs.proofs.phase_laws.node_columns.Goals as goal

pub returns : goal.returns
returns c = record { setting = record { column = column_is; homes = homes_are; cost = cost_is; costs = costs_are } }
