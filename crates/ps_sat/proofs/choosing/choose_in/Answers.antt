use Rattle.ps_sat.proofs.Clauses.{violated-none}
use Rattle.ps_learn.specs.Trails.{values}
use Rattle.ps_sat.proofs.choosing.choose_in.Goals as goal

pub returns-in-None : goal.returns-in-None
returns-in-None c = violated-none c.args.c.now c.values.result.now (values c.args.trail.now) c.values.ensures.value (c.is_plain.ensures c.if-not-is_plain.false) c.in-None.ensures.none
