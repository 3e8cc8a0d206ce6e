use Rattle.ps_reader.proofs.Only.{only_rows}
use Rattle.ps_reader.proofs.models.rows.Goals as goal

pub unreachable-requires : goal.unreachable-requires
unreachable-requires c = only_rows c.in_ok-rows.field-0 c.in_ok-rows.ensures.fits c.in_default.not-Rows
