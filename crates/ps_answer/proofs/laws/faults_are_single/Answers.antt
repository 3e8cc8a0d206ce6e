use Rattle.ps_answer.proofs.Single.{no_fault, one_fault}
use Rattle.ps_answer.proofs.laws.faults_are_single.Goals as goal

pub returns-clause-none : goal.returns-clause-none
returns-clause-none c = no_fault

pub returns-clause-one : goal.returns-clause-one
returns-clause-one c = one_fault
