use Rattle.std.proofs.Common.{arith}
use Rattle.std.proofs.lemmas.Nat.Gcd.{IsGcd-from_zero, IsGcd-from_mod}
use Rattle.ps_meaning.specs.Coprime.{is_gcd}
use Rattle.ps_frac.proofs.divisors.gcd_by_remainders.Goals as goal

pub loop-y-preserved : goal.loop-y-preserved
loop-y-preserved c = λ g h. c.loop-y.invariant g (IsGcd-from_mod _ _ g h)

pub returns : goal.returns
returns c = record { value = is_gcd _ _ _ (c.loop-y.invariant _ (IsGcd-from_zero _ _ (omega arith))) }
