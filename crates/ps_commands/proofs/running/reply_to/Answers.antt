use Rattle.std.proofs.lemmas.Result.{IfOk-weaker}
use Rattle.ps_commands.specs.declared.reply.Reply.{Reply}
use Rattle.ps_commands.specs.Commands.{words_of}
use Rattle.ps_commands.specs.Replies.{IsDueFor, IsDue, output_of, reply_status, status_of}
use Rattle.ps_commands.specs.Runs.{HasAnswered}
use Rattle.ps_commands.specs.Statuses.{IsAnswerOf}
use Rattle.ps_commands.proofs.DueLaws.{command_answered, command_due, command_read}
use Rattle.ps_commands.proofs.running.reply_to.Goals as goal

pub returns-in-Some-clause-due : goal.returns-in-Some-clause-due
returns-in-Some-clause-due g c =
    IfOk-weaker c.reply_to_command.result (λ (r : Reply). IsDueFor c.in-Some.command (g.I.Source.left c.args.source.now) (output_of r))
    (λ (r : Reply). IsDue (words_of c.args.words.now) (g.I.Source.left c.args.source.now) (output_of r))
    (λ r due. command_due (words_of c.args.words.now) c.in-Some.command _ (output_of r) c.in-Some.ensures due) c.reply_to_command.ensures.due

pub returns-in-Some-clause-read : goal.returns-in-Some-clause-read
returns-in-Some-clause-read g c =
    command_read c.args.words.now c.in-Some.command (status_of c.reply_to_command.result) _ _ c.in-Some.ensures c.reply_to_command.ensures.taken

pub returns-in-Some-clause-answered : goal.returns-in-Some-clause-answered
returns-in-Some-clause-answered g c =
    IfOk-weaker c.reply_to_command.result (λ (r : Reply). IsAnswerOf c.in-Some.command (reply_status r)) (λ (r : Reply). HasAnswered c.args.words.now (reply_status r))
    (λ r goes. command_answered c.args.words.now c.in-Some.command (reply_status r) c.in-Some.ensures goes) c.reply_to_command.ensures.status
