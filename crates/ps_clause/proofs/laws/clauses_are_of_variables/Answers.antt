use Rattle.ps_clause.proofs.Inside.{nodes-clauses, clause-more, clauses-inside}
use Rattle.ps_clause.proofs.laws.clauses_are_of_variables.Goals as goal

pub returns-clause-nodes : goal.returns-clause-nodes
returns-clause-nodes c = nodes-clauses

pub returns-clause-more : goal.returns-clause-more
returns-clause-more c = clause-more

pub returns-clause-inside : goal.returns-clause-inside
returns-clause-inside c = clauses-inside
