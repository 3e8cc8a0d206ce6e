use Rattle.ps_max_text.proofs.Passing.{only_values}
use Rattle.ps_max_text.proofs.reading.values.Goals as goal

pub unreachable-requires : goal.unreachable-requires
unreachable-requires c = only_values c.in_ok-values.field-0 c.in_ok-values.ensures.fits c.in_default.not-Values
