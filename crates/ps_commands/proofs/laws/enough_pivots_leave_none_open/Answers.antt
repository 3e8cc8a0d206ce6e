use Rattle.ps_commands.proofs.EnoughPivots.{none_open, no_explanation_open, none_open_at, no_explanation_open_at}
use Rattle.ps_commands.proofs.laws.enough_pivots_leave_none_open.Goals as goal

pub returns-clause-answer : goal.returns-clause-answer
returns-clause-answer c = none_open

pub returns-clause-explanation : goal.returns-clause-explanation
returns-clause-explanation c = no_explanation_open

pub returns-clause-any_answer : goal.returns-clause-any_answer
returns-clause-any_answer c = none_open_at

pub returns-clause-any_explanation : goal.returns-clause-any_explanation
returns-clause-any_explanation c = no_explanation_open_at
