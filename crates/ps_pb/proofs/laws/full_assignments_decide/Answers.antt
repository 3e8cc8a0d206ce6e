use Rattle.ps_pb.proofs.Full.{full-met, met-full, complete-full, full-is-complete, values-full}
use Rattle.ps_pb.proofs.laws.full_assignments_decide.Goals as goal

pub returns-clause-decided : goal.returns-clause-decided
returns-clause-decided c = λ w a h. (met-full w a h, full-met w a h)

pub returns-clause-complete : goal.returns-clause-complete
returns-clause-complete c = λ a. (complete-full a, full-is-complete a)

pub returns-clause-values : goal.returns-clause-values
returns-clause-values c = values-full
