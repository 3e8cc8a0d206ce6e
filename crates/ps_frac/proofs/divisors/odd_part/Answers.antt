use Rattle.std.specs.Int.{w64}
use Rattle.std.proofs.lemmas.Nat.Bits.{bit_at-trailing_zeros}
use Rattle.ps_frac.proofs.Halving.{exact_shift}
use Rattle.ps_frac.proofs.divisors.odd_part.Goals as goal

pub returns-clause-odd : goal.returns-clause-odd
returns-clause-odd c = (bit_at-trailing_zeros w64 c.args.n c.requires.not_zero c.ranges.n.fits).1

pub returns-clause-exact : goal.returns-clause-exact
returns-clause-exact c = exact_shift _ c.args.n (bit_at-trailing_zeros w64 c.args.n c.requires.not_zero c.ranges.n.fits).2
