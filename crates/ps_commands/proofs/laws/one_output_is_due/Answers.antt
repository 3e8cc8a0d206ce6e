use Rattle.ps_commands.proofs.Accepted.{one_solution}
use Rattle.ps_commands.proofs.CommandLaws.{one_command}
use Rattle.ps_commands.proofs.OneOutput.{one_output}
use Rattle.ps_commands.proofs.laws.one_output_is_due.Goals as goal

pub returns-clause-command : goal.returns-clause-command
returns-clause-command c = one_command

pub returns-clause-output : goal.returns-clause-output
returns-clause-output c = one_output

pub returns-clause-answer : goal.returns-clause-answer
returns-clause-answer c = one_solution
