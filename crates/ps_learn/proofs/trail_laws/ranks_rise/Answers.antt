use Rattle.ps_learn.proofs.Ranks.{rank-bound, rank-rises}
use Rattle.ps_learn.proofs.trail_laws.ranks_rise.Goals as goal

pub returns-clause-bounded : goal.returns-clause-bounded
returns-clause-bounded c = rank-bound

pub returns-clause-rise : goal.returns-clause-rise
returns-clause-rise c = rank-rises
