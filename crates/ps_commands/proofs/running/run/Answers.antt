use Rattle.std.proofs.Common.{sym, subst}
use Rattle.ps_messages.specs.declared.status.Status.{Status}
use Rattle.ps_commands.specs.Commands.{words_of}
use Rattle.ps_commands.specs.Runs.{Wrote}
use Rattle.ps_commands.proofs.RunLaws.{reply_ran}
use Rattle.ps_commands.proofs.running.run.Goals as goal

pub returns-in-Ok-write_reply-clause-ran : goal.returns-in-Ok-write_reply-clause-ran
returns-in-Ok-write_reply-clause-ran g c = record {
  wrote = λ bytes given.
      subst (λ (s : Status). Wrote (words_of c.args.words.now) bytes s (g.O.Sink.written c.args.sink.now) (g.O.Sink.written c.write_reply.new.sink)) (sym c.status-in-Ok-write_reply.ensures)
      (reply_ran (words_of c.args.words.now) bytes (g.I.Source.left c.args.source.now) c.in-Ok.reply (g.O.Sink.written c.args.sink.now) (g.O.Sink.written c.write_reply.new.sink) c.in-Ok.ensures.due given c.in-Ok.ensures.status c.in-Ok-write_reply.ensures.wrote);
}
