use Rattle.ps_commands.specs.Replies.{output_of, reply_status}
use Rattle.ps_commands.proofs.DueLaws.{answer_goes, input_due, took_by, read_whole}
use Rattle.ps_commands.proofs.running.reply_to_input.Goals as goal

pub returns-in_ok-reply_to_bytes-in-Ok-clause-due : goal.returns-in_ok-reply_to_bytes-in-Ok-clause-due
returns-in_ok-reply_to_bytes-in-Ok-clause-due g c =
    input_due c.args.command c.args.limit _ _ c.in-Ok.bytes.items c.deref.result.now (output_of c.in_ok-reply_to_bytes-in-Ok.field-0) c.requires.limit c.in-Ok.ensures.ok c.deref.ensures.value
    c.in_ok-reply_to_bytes-in-Ok.ensures.due

pub returns-in_ok-reply_to_bytes-in-Ok-clause-took : goal.returns-in_ok-reply_to_bytes-in-Ok-clause-took
returns-in_ok-reply_to_bytes-in-Ok-clause-took g c =
    took_by c.args.limit (reply_status c.in_ok-reply_to_bytes-in-Ok.field-0) _ _
    (answer_goes c.args.command (reply_status c.in_ok-reply_to_bytes-in-Ok.field-0) c.in_ok-reply_to_bytes-in-Ok.ensures.status) (read_whole c.args.limit _ _ c.in-Ok.bytes.items c.in-Ok.ensures.ok)
