use Rattle.ps_clause.proofs.Values.{world-has, extended-back}
use Rattle.ps_clause.proofs.laws.worlds_of_assignments.Goals as goal

pub returns-clause-atoms : goal.returns-clause-atoms
returns-clause-atoms c = world-has

pub returns-clause-extended : goal.returns-clause-extended
returns-clause-extended c = extended-back
