use Rattle.ps_commands.proofs.Accepted.{accepted_report}
use Rattle.ps_commands.proofs.AcceptedRuns.{run_accepted}
use Rattle.ps_commands.proofs.laws.reports_are_accepted.Goals as goal

pub returns-clause-due : goal.returns-clause-due
returns-clause-due c = accepted_report

pub returns-clause-runs : goal.returns-clause-runs
returns-clause-runs c = run_accepted
