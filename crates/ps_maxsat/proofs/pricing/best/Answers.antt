use Rattle.ps_maxsat.proofs.Rounds.{priced-nothing}
use Rattle.ps_maxsat.proofs.pricing.best.Goals as goal

pub returns-in_err-first-clause-logged : goal.returns-in_err-first-clause-logged
returns-in_err-first-clause-logged g c = priced-nothing c.args.wcnf.now c.args.conflicts _ c.from_residual.result c.from_residual.ensures.0
