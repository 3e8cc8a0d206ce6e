use Rattle.ps_reader.proofs.Only.{only_entry}
use Rattle.ps_reader.proofs.models.entry.Goals as goal

pub unreachable-requires : goal.unreachable-requires
unreachable-requires c = only_entry c.in_ok-weight.field-0 c.in_ok-weight.ensures.fits c.in_default.not-Entry
