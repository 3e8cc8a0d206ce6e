use Rattle.ps_pb.proofs.Linear.{met-weight, weight-met}
use Rattle.ps_pb.proofs.Lawful.{clause-met, met-clause}
use Rattle.ps_pb.proofs.Within.{constraint-within}
use Rattle.ps_pb.proofs.laws.weights_are_bounded.Goals as goal

pub returns-clause-weights : goal.returns-clause-weights
returns-clause-weights c = λ w ts least. (met-weight w ts least, weight-met w ts least)

pub returns-clause-clause : goal.returns-clause-clause
returns-clause-clause c = λ w lits. (met-clause w lits, clause-met w lits)

pub returns-clause-within : goal.returns-clause-within
returns-clause-within c = constraint-within
