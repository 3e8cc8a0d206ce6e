use Rattle.ps_messages.specs.Messages.{message_output}
use Rattle.ps_commands.proofs.FoundInputs.{accepted_due, line_due, refused_due, unread_due}
use Rattle.ps_commands.proofs.checked.message_of.Goals as goal

pub returns-in_ok-accepted_answer-in-Accepted-clause-due : goal.returns-in_ok-accepted_answer-in-Accepted-clause-due
returns-in_ok-accepted_answer-in-Accepted-clause-due c =
    accepted_due c.args.found c.in-Accepted.accepted (message_output c.in_ok-accepted_answer-in-Accepted.field-0) c.in-Accepted.is c.in_ok-accepted_answer-in-Accepted.ensures

pub returns-in_ok-refused_claim-in-Refused-clause-due : goal.returns-in_ok-refused_claim-in-Refused-clause-due
returns-in_ok-refused_claim-in-Refused-clause-due c =
    refused_due c.args.found c.in-Refused.refusal (message_output c.in_ok-refused_claim-in-Refused.field-0) c.in-Refused.is c.in_ok-refused_claim-in-Refused.ensures

pub returns-in_ok-refused_line-in-RefusedLine-clause-due : goal.returns-in_ok-refused_line-in-RefusedLine-clause-due
returns-in_ok-refused_line-in-RefusedLine-clause-due c =
    line_due c.args.found c.in-RefusedLine.kind c.in-RefusedLine.line (message_output c.in_ok-refused_line-in-RefusedLine.field-0) c.in-RefusedLine.is
    c.in_ok-refused_line-in-RefusedLine.ensures

pub returns-in_ok-unreadable-in-Unreadable-clause-due : goal.returns-in_ok-unreadable-in-Unreadable-clause-due
returns-in_ok-unreadable-in-Unreadable-clause-due c =
    unread_due c.args.found c.in-Unreadable.kind c.in-Unreadable.line c.in-Unreadable.column (message_output c.in_ok-unreadable-in-Unreadable.field-0) c.in-Unreadable.is
    c.in_ok-unreadable-in-Unreadable.ensures
