use Rattle.ps_commands.proofs.AcceptedRuns.{max_run_accepted}
use Rattle.ps_commands.proofs.laws.answers_of_clauses_are_accepted.Goals as goal

pub returns : goal.returns
returns c = max_run_accepted
