use Rattle.ps_max_text.proofs.Passing.{log_read}
use Rattle.ps_max_text.proofs.reading.log.Goals as goal

pub returns : goal.returns
returns c = log_read c.args.lines.now c.log_head.new.lines c.steps.new.lines c.in_ok-count.count c.steps.result c.in_ok-count.ensures c.steps.ensures.steps c.steps.ensures.count
