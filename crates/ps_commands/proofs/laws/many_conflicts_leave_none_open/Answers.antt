use Rattle.ps_commands.proofs.ManyConflicts.{none_open, no_explanation_open, none_open_of_made}
use Rattle.ps_commands.proofs.laws.many_conflicts_leave_none_open.Goals as goal

pub returns-clause-answer : goal.returns-clause-answer
returns-clause-answer c = none_open

pub returns-clause-explanation : goal.returns-clause-explanation
returns-clause-explanation c = no_explanation_open

pub returns-clause-made : goal.returns-clause-made
returns-clause-made c = none_open_of_made
