use Rattle.ps_commands.specs.Replies.{output_of}
use Rattle.ps_commands.specs.declared.reply.Reply.TheVariants.{Line}
use Rattle.ps_commands.specs.declared.command.Command.TheVariants.{Check}
use Rattle.ps_commands.proofs.DueLaws.{answer_goes, took_by}
use Rattle.ps_commands.proofs.FoundInputs.{checked_due, checked_whole}
use Rattle.ps_commands.proofs.checked.reply_to_check.Goals as goal

pub returns-in_ok-message_of-in-Ok-clause-due : goal.returns-in_ok-message_of-in-Ok-clause-due
returns-in_ok-message_of-in-Ok-clause-due g c =
    checked_due c.args.limit _ _ _ (output_of (Line c.in_ok-message_of-in-Ok.field-0)) c.in-Ok.ensures.ok c.in_ok-message_of-in-Ok.ensures.due

pub returns-in_ok-message_of-in-Ok-clause-took : goal.returns-in_ok-message_of-in-Ok-clause-took
returns-in_ok-message_of-in-Ok-clause-took g c =
    took_by c.args.limit c.in_ok-message_of-in-Ok.field-0.status _ _ (answer_goes (Check c.args.limit) c.in_ok-message_of-in-Ok.field-0.status c.in_ok-message_of-in-Ok.ensures.status)
    (checked_whole c.args.limit _ _ _ c.in-Ok.ensures.ok)
