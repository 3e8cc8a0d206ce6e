use Rattle.ps_problem.proofs.BoundRows.{bounds-rows}
use Rattle.ps_problem.proofs.laws.bounds_are_rows.Goals as goal

pub returns : goal.returns
returns c = bounds-rows
