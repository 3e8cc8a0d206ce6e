use Rattle.std.proofs.Common.{arith}
use Rattle.std.proofs.lemmas.Int.{ints}
use Rattle.ps_frac.proofs.Reduced.{lcm_at}
use Rattle.ps_frac.proofs.multiples.lcm_upto.Goals as goal

pub returns-in-Some-clause-least : goal.returns-in-Some-clause-least
returns-in-Some-clause-least c =
    lcm_at _ _ c.unsigned_abs-first.result c.unsigned_abs-second.result c.gcd.result c.in-Some.multiple _
    (omega (arith, ints)) (omega (arith, ints)) (omega (arith, ints)) c.gcd.ensures.value c.in-Some.ensures.value.1 (omega (arith, ints))
