use Rattle.ps_reader.proofs.Values.{trace_read}
use Rattle.ps_reader.proofs.traces.trace.Goals as goal

pub returns : goal.returns
returns c =
    trace_read c.args.lines.now c.trace_head.new.lines c.events.new.lines c.in_ok-count.count c.events.result c.in_ok-count.ensures c.events.ensures.events c.events.ensures.count
