use Rattle.ps_ask.proofs.RunLaws.{has_report, none_asked, not_silent, reads_same, reply_asked, reply_cut, report_cut, reports_counted, writes_counted}
use Rattle.ps_ask.proofs.ReadLaws.{was_read}
use Rattle.ps_ask.proofs.answering.ask.Goals as goal

pub returns-in-Err-clause-due : goal.returns-in-Err-clause-due
returns-in-Err-clause-due g c =
    rw c.status.ensures
    (none_asked c.args.settings c.args.name.now (g.I.Source.left c.args.source.now) c.in-Err.error (g.O.Sink.written c.args.out.now.shown) (g.O.Sink.written c.reply_to.new.sink)
    (g.R.Sink.written c.args.out.now.report) c.in-Err.ensures.due)

pub returns-in-Ok-write_beside-clause-due : goal.returns-in-Ok-write_beside-clause-due
returns-in-Ok-write_beside-clause-due g c =
    reply_asked c.args.settings c.args.name.now (g.I.Source.left c.args.source.now) c.in-Ok.reply (g.O.Sink.written c.args.out.now.shown) (g.O.Sink.written c.reply_to.new.sink)
    (g.O.Sink.written c.write_last.new.sink) c.in-Ok.ensures.due c.status-in-Ok-write_beside.result (g.R.Sink.written c.args.out.now.report) (g.R.Sink.written c.write_beside.new.sink)
    c.status-in-Ok-write_beside.ensures c.in-Ok-write_last.ensures.wrote c.in-Ok-write_beside.ensures.done

pub returns-in-Ok-write_beside-clause-silent : goal.returns-in-Ok-write_beside-clause-silent
returns-in-Ok-write_beside-clause-silent g c =
    λ silent. absurd (not_silent c.status-in-Ok-write_beside.result c.args.settings.is_timed c.in-Ok.reply c.status-in-Ok-write_beside.ensures silent)

pub returns-in-Ok-write_beside-clause-unreported : goal.returns-in-Ok-write_beside-clause-unreported
returns-in-Ok-write_beside-clause-unreported g c =
    λ none. absurd (has_report c.status-in-Ok-write_beside.result c.args.settings.is_timed c.in-Ok.reply c.status-in-Ok-write_beside.ensures none)

pub returns-in-Ok-write_beside-clause-write_faults : goal.returns-in-Ok-write_beside-clause-write_faults
returns-in-Ok-write_beside-clause-write_faults g c =
    writes_counted c.status-in-Ok-write_beside.result c.args.settings.is_timed c.in-Ok.reply (g.O.Sink.faults c.args.out.now.shown) (g.O.Sink.faults c.write_last.new.sink)
    c.status-in-Ok-write_beside.ensures (rw c.in-Ok.ensures.faults at c.in-Ok-write_last.ensures.faults.ok)

pub returns-in-Ok-write_beside-clause-reports : goal.returns-in-Ok-write_beside-clause-reports
returns-in-Ok-write_beside-clause-reports g c =
    reports_counted c.status-in-Ok-write_beside.result c.args.settings.is_timed c.in-Ok.reply (g.R.Sink.faults c.args.out.now.report) (g.R.Sink.faults c.write_beside.new.sink)
    c.status-in-Ok-write_beside.ensures c.in-Ok-write_beside.ensures.faults.ok

pub returns-in-Ok-write_last-clause-due : goal.returns-in-Ok-write_last-clause-due
returns-in-Ok-write_last-clause-due g c =
    report_cut c.args.settings c.args.name.now (g.I.Source.left c.args.source.now) c.in-Ok.reply (g.O.Sink.written c.args.out.now.shown) (g.O.Sink.written c.reply_to.new.sink)
    (g.O.Sink.written c.write_last.new.sink) c.in-Ok.ensures.due (g.R.Sink.written c.args.out.now.report) (g.R.Sink.written c.write_beside.new.sink)
    c.in-Ok-write_last.ensures.wrote c.in-Err-write_beside.ensures.done

pub returns-in-Ok-write_last-clause-read_faults : goal.returns-in-Ok-write_last-clause-read_faults
returns-in-Ok-write_last-clause-read_faults g c =
    reads_same c.args.settings.is_timed c.in-Ok.reply (g.I.Source.faults c.args.source.now) (g.I.Source.faults c.reply_to.new.source) c.in-Ok.ensures.reads

pub returns-clause-due : goal.returns-clause-due
returns-clause-due g c =
    reply_cut c.args.settings c.args.name.now (g.I.Source.left c.args.source.now) c.in-Ok.reply (g.O.Sink.written c.args.out.now.shown) (g.O.Sink.written c.reply_to.new.sink)
    (g.O.Sink.written c.write_last.new.sink) c.in-Ok.ensures.due (g.R.Sink.written c.args.out.now.report) c.in-Err-write_last.ensures.wrote

pub returns-clause-read_faults : goal.returns-clause-read_faults
returns-clause-read_faults g c =
    reads_same c.args.settings.is_timed c.in-Ok.reply (g.I.Source.faults c.args.source.now) (g.I.Source.faults c.reply_to.new.source) c.in-Ok.ensures.reads

pub returns-in-Ok-write_last-clause-read : goal.returns-in-Ok-write_last-clause-read
returns-in-Ok-write_last-clause-read g c =
    was_read c.args.settings.is_timed c.in-Ok.reply (g.I.Source.left c.args.source.now) (g.I.Source.left c.reply_to.new.source) c.in-Ok.ensures.read

pub returns-clause-read : goal.returns-clause-read
returns-clause-read g c =
    was_read c.args.settings.is_timed c.in-Ok.reply (g.I.Source.left c.args.source.now) (g.I.Source.left c.reply_to.new.source) c.in-Ok.ensures.read
