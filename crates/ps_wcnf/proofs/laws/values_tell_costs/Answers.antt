use Rattle.ps_wcnf.proofs.Extended.{extends-best, none-more, only-allowed, optimal, none-allowed}
use Rattle.ps_wcnf.proofs.laws.values_tell_costs.Goals as goal

pub returns-clause-extend : goal.returns-clause-extend
returns-clause-extend c = extends-best

pub returns-clause-most : goal.returns-clause-most
returns-clause-most c = none-more

pub returns-clause-allowed : goal.returns-clause-allowed
returns-clause-allowed c = only-allowed

pub returns-clause-optimal : goal.returns-clause-optimal
returns-clause-optimal c = optimal

pub returns-clause-none : goal.returns-clause-none
returns-clause-none c = none-allowed
