use Rattle.ps_problem.proofs.Scales.{reread, divisors}
use Rattle.ps_problem.proofs.scale.whole_numbers_are_reread.Goals as goal

pub returns-clause-reread : goal.returns-clause-reread
returns-clause-reread c = reread

pub returns-clause-divisors : goal.returns-clause-divisors
returns-clause-divisors c = divisors
