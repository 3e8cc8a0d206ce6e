use Rattle.ps_problem.proofs.InLowestTerms.{quotient-some}
use Rattle.ps_problem.proofs.scale.lowest.Goals as goal

pub returns-clause-positive : goal.returns-clause-positive
returns-clause-positive c = quotient-some _ c.args.scale c.gcd-divisor.result c.requires.some c.gcd-divisor.ensures.value
