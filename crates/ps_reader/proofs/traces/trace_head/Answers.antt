use Rattle.ps_reader.proofs.Only.{only_trace_head}
use Rattle.ps_reader.proofs.traces.trace_head.Goals as goal

pub unreachable-requires : goal.unreachable-requires
unreachable-requires c = only_trace_head c.in_ok-count.field-0 c.in_ok-count.ensures.fits c.in_default.not-TraceHead
