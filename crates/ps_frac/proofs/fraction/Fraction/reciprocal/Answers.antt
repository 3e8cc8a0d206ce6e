use Rattle.std.proofs.Common.{arith}
use Rattle.std.proofs.lemmas.Int.{ints}
use Rattle.ps_frac.proofs.Reduced.{is_inverse_up, is_inverse_down, turned_lowest}
use Rattle.ps_frac.proofs.fraction.Fraction.reciprocal.Goals as goal

pub of_lowest-requires-clause-lowest : goal.of_lowest-requires-clause-lowest
of_lowest-requires-clause-lowest c = turned_lowest c.args.self.now _ _ c.requires.not_zero (omega (arith, ints)) (omega (arith, ints))

pub of_lowest-requires-else-over-lt0-clause-lowest : goal.of_lowest-requires-else-over-lt0-clause-lowest
of_lowest-requires-else-over-lt0-clause-lowest c = turned_lowest c.args.self.now _ _ c.requires.not_zero (omega (arith, ints)) (omega (arith, ints))

pub returns-then-over-lt0 : goal.returns-then-over-lt0
returns-then-over-lt0 c = record { value = is_inverse_down c.args.self.now _ (omega (arith, ints)) (omega (arith, ints)) (omega (arith, ints)) }

pub returns-else-over-lt0 : goal.returns-else-over-lt0
returns-else-over-lt0 c = record { value = is_inverse_up c.args.self.now _ c.requires.not_zero (omega (arith, ints)) (omega (arith, ints)) (omega (arith, ints)) }
