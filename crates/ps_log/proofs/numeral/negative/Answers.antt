use Rattle.std.proofs.Common.{arith}
use Rattle.std.proofs.lemmas.Int.{ints}
use Rattle.ps_log.proofs.Spelled.{negative-of}
use Rattle.ps_log.proofs.numeral.negative.Goals as goal

pub returns-in-Some : goal.returns-in-Some
returns-in-Some c =
    negative-of c.args.digits.now c.in-Some.n _ c.in-Some.ensures.size.0 c.in-Some.ensures.size.1 c.if-n-gt0.true (omega (arith, ints, c.in-Some.ensures.within))
