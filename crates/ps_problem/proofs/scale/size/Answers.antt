use Rattle.std.proofs.Common.{arith}
use Rattle.ps_problem.proofs.Scales.{size_small, read_back}
use Rattle.ps_problem.proofs.scale.size.Goals as goal

pub overflow_mul-result : goal.overflow_mul-result
overflow_mul-result c = let s = size_small c.args.scale c.args.number c.requires.number c.requires.small in
    rw (c.unsigned_abs.ensures.value, read_back c.args.number c.requires.number, c.from.ensures) (omega (arith, s))

pub returns-clause-few : goal.returns-clause-few
returns-clause-few c =
    rw (c.unsigned_abs.ensures.value, read_back c.args.number c.requires.number, c.from.ensures) (size_small c.args.scale c.args.number c.requires.number c.requires.small)
