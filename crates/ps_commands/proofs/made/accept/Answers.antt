use Rattle.ps_commands.proofs.MadeText.{never_refused, solution_small}
use Rattle.ps_commands.proofs.made.accept.Goals as goal

pub check-requires : goal.check-requires
check-requires c = record { limits = solution_small c.args.limits c.args.problem.now c.args.answer.now c.rows-sound.ensures.parts c.requires.solution }

pub unreachable-requires : goal.unreachable-requires
unreachable-requires c =
    never_refused c.args.problem.now c.args.answer.now c.in-Err-Refused.field-0 c.in-Err-Refused.field-0-0 c.in-Err-Refused.field-0-is c.in-Err-Refused.ensures.judged c.requires.solution.valid
