use Rattle.ps_ask.proofs.DueLaws.{unread_at, unread_shown}
use Rattle.ps_ask.proofs.answering.reply_to_bytes.Goals as goal

pub returns-in-Ok-refusal_noted-clause-shown : goal.returns-in-Ok-refusal_noted-clause-shown
returns-in-Ok-refusal_noted-clause-shown g c =
    unread_shown c.args.settings c.args.input.name.now c.args.input.bytes.now c.in-Err-At.field-0 c.in-Err-At.kind c.in-Err-At.line c.in-Err-At.column
    (g.O.Sink.written c.args.sink.now) c.in-Err-At.field-0-is c.in-Err-At.ensures.told

pub refusal_noted-requires-clause-unread : goal.refusal_noted-requires-clause-unread
refusal_noted-requires-clause-unread g c =
    rw c.in-Err-At.field-0-is (unread_at c.args.input.bytes.now c.in-Err-At.field-0 c.in-Err-At.kind c.in-Err-At.line c.in-Err-At.column
    c.in-Err-At.field-0-is c.in-Err-At.ensures.told)
