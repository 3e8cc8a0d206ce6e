use Rattle.std.proofs.Common.{[], ◌∷◌, map, length}
use Rattle.ps_answer.specs.declared.item.LineItem.TheVariants as line
use Rattle.ps_answer.specs.Answers.{event_item}
use Rattle.ps_report.proofs.Sequence.{items_then}
use Rattle.ps_report.proofs.parts.write_trace.Goals as goal

pub returns : goal.returns
returns g c = items_then g.O.Sink _ _ _ _ (line.TraceHead (length c.args.trace.now) ∷ []) (map event_item c.args.trace.now) (rw c.in_ok-write_trace_head.was at c.write_trace_head.ensures) c.write_events.ensures
