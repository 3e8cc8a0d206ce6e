use Rattle.ps_query.proofs.Queries.{are_sides, as_taken}
use Rattle.ps_query.proofs.solving.bounds.Goals as goal

pub returns-clause-bounds : goal.returns-clause-bounds
returns-clause-bounds c =
    as_taken c.args.run.now c.in_ok-lower.lower c.in_ok-upper.upper c.lower.new.self.trace c.take_trace-lower_trace.result c.upper.new.self.trace c.take_trace.result
    c.take_trace-lower_trace.ensures.events c.take_trace.ensures.events
    (are_sides c.args.run.now c.lower.new.self c.take_trace-lower_trace.new.self c.upper.new.self c.in_ok-lower.lower c.in_ok-upper.upper c.requires.taken c.in_ok-lower.ensures.answer
    c.take_trace-lower_trace.ensures.rest c.in_ok-upper.ensures.answer)
