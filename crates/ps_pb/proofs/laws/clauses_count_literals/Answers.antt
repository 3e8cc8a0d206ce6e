use Rattle.ps_pb.proofs.Clauses.{clause-plain, clause-slack}
use Rattle.ps_pb.proofs.laws.clauses_count_literals.Goals as goal

pub returns-clause-plain : goal.returns-clause-plain
returns-clause-plain c = clause-plain

pub returns-clause-slack : goal.returns-clause-slack
returns-clause-slack c = clause-slack
