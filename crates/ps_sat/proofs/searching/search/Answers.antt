use Rattle.ps_sat.proofs.Handing.{begins-none, logged-nothing}
use Rattle.ps_sat.proofs.searching.search.Goals as goal

pub returns-in_err-first-clause-logged : goal.returns-in_err-first-clause-logged
returns-in_err-first-clause-logged g c = logged-nothing c.args.base.now c.args.goal.now c.args.conflicts _ c.from_residual.result c.from_residual.ensures.0

pub returns-in_err-first-clause-begun : goal.returns-in_err-first-clause-begun
returns-in_err-first-clause-begun g c = begins-none c.from_residual.result _ c.from_residual.ensures.0
