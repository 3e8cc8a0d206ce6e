use Rattle.ps_ask.proofs.DueLaws.{reads_counted_by}
use Rattle.ps_ask.proofs.answering.reply_to.Goals as goal

pub returns-in-Ok-clause-reads : goal.returns-in-Ok-clause-reads
returns-in-Ok-clause-reads g c =
    reads_counted_by c.args.settings.is_timed c.reply_to_bytes.result (g.I.Source.faults c.args.source.now) (g.I.Source.faults c.read_all.new.source)
    c.reply_to_bytes.ensures.read c.in-Ok.ensures.faults.ok
