use Rattle.ps_messages.specs.Messages.{message_output}
use Rattle.ps_max_commands.proofs.Judgements.{accepted_due, refused_due}
use Rattle.ps_max_commands.proofs.judged.judge.Goals as goal

pub returns-in_ok-accepted_answer-in-Ok-clause-judged : goal.returns-in_ok-accepted_answer-in-Ok-clause-judged
returns-in_ok-accepted_answer-in-Ok-clause-judged c =
    accepted_due c.args.text.now c.args.answer.now c.in-Ok.accepted (message_output c.in_ok-accepted_answer-in-Ok.field-0) c.in-Ok.ensures.judged c.in-Ok.ensures.shown c.in-Ok.ensures.counted c.in_ok-accepted_answer-in-Ok.ensures

pub returns-in_ok-refuse-in-Err-clause-judged : goal.returns-in_ok-refuse-in-Err-clause-judged
returns-in_ok-refuse-in-Err-clause-judged c =
    refused_due c.args.text.now c.args.answer.now c.in-Err.reason (message_output c.in_ok-refuse-in-Err.field-0) c.in-Err.ensures.judged c.in_ok-refuse-in-Err.ensures.refusal
