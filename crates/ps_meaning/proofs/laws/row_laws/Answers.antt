use Rattle.ps_meaning.proofs.BoundRows.{bounds_are_rows}
use Rattle.ps_meaning.proofs.laws.row_laws.Goals as goal

pub returns : goal.returns
returns c = record { rows = bounds_are_rows }
