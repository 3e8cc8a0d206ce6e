use Rattle.ps_clause.proofs.Starts.{start-both, both-start, start-within, unmet-goal}
use Rattle.ps_clause.proofs.laws.forms_and_goals_are_known.Goals as goal

pub returns-clause-start : goal.returns-clause-start
returns-clause-start c = λ f goal w. (start-both f goal w, both-start f goal w)

pub returns-clause-within : goal.returns-clause-within
returns-clause-within c = start-within

pub returns-clause-refuted : goal.returns-clause-refuted
returns-clause-refuted c = unmet-goal
