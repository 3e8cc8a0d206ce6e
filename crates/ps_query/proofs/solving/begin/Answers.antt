use Rattle.ps_query.proofs.Answering.{opening}
use Rattle.ps_query.proofs.solving.begin.Goals as goal

pub returns : goal.returns
returns c =
    opening c.args.run.now c.phase_one.new.self _ c.in_ok-phase_one.field-0 _ _ c.in_ok-phase_one.ensures.answer c.in_ok-phase_one.ensures.printed
    c.verdict_of-verdict.ensures c.take_trace.ensures.events c.take_trace.ensures.rest
