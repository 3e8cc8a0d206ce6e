use Rattle.ps_problem.proofs.Scales.{whole_fits, whole_is}
use Rattle.ps_problem.proofs.scale.whole.Goals as goal

pub overflow_mul-result : goal.overflow_mul-result
overflow_mul-result c = whole_fits c.args.scale c.args.number c.requires.number c.requires.small c.from.result c.from.ensures

pub returns : goal.returns
returns c = whole_is c.args.scale c.args.number c.requires.number c.requires.small c.from.result c.from.ensures
