use Rattle.std.proofs.Common.{arith}
use Rattle.std.proofs.lemmas.Int.{ints}
use Rattle.ps_meaning.proofs.Field.{zero_over, over_is_zero}
use Rattle.ps_frac.proofs.fraction.Fraction.is_zero.Goals as goal

pub returns : goal.returns
returns c = grind (arith, ints, zero_over, over_is_zero c.args.self.now)
