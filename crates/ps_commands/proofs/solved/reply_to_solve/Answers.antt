use Rattle.ps_claims.specs.Claims.{unfinished_of}
use Rattle.ps_valid.specs.Answers.{answer_of}
use Rattle.ps_messages.specs.Messages.{message_output}
use Rattle.ps_commands.proofs.SolveEnds.{ends_solve}
use Rattle.ps_commands.proofs.DueLaws.{solved_due, unsolved_due}
use Rattle.ps_commands.proofs.solved.reply_to_solve.Goals as goal

pub returns-in_ok-solve-in-Ok-clause-due : goal.returns-in_ok-solve-in-Ok-clause-due
returns-in_ok-solve-in-Ok-clause-due c =
    solved_due c.args.limits c.limits_for-limits.result c.args.enough c.args.bytes.now c.in-Ok.problem c.in_ok-solve-in-Ok.field-0 c.limits_for-limits.ensures.limits c.in-Ok.ensures.found
    c.in_ok-solve-in-Ok.ensures.solution c.in_ok-solve-in-Ok.ensures.read_back

pub returns-in_ok-unreadable-in-Err-At-clause-due : goal.returns-in_ok-unreadable-in-Err-At-clause-due
returns-in_ok-unreadable-in-Err-At-clause-due c =
    unsolved_due c.args.limits c.args.enough c.args.bytes.now c.in-Err-At.field-0 c.in-Err-At.kind c.in-Err-At.line c.in-Err-At.column (message_output c.in_ok-unreadable-in-Err-At.field-0)
    c.in-Err-At.field-0-is c.in-Err-At.ensures.told (let k = c.in-Err-At.kind-is in let l = c.in-Err-At.line-is in let n = c.in-Err-At.column-is in let s = c.in_ok-unreadable-in-Err-At.ensures in rw (← k, ← l, ← n) s)

pub returns-in_ok-solve-in-Ok-clause-status : goal.returns-in_ok-solve-in-Ok-clause-status
returns-in_ok-solve-in-Ok-clause-status c =
    ends_solve c.in_ok-solve-in-Ok.field-0.verdict (unfinished_of (answer_of c.in_ok-solve-in-Ok.field-0))
