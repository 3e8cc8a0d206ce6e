use Rattle.ps_reader.proofs.Only.{only_event}
use Rattle.ps_reader.proofs.traces.event.Goals as goal

pub unreachable-requires : goal.unreachable-requires
unreachable-requires c = only_event c.in_ok-enter.field-0 c.in_ok-enter.ensures.fits c.in_default.not-PivotLine c.in_default.not-PricedLine
