use Rattle.std.proofs.Common.{subst, sym}
use Rattle.std.specs.Int.{IsGcd}
use Rattle.ps_meaning.specs.Coprime.{gcd_is}
use Rattle.ps_whole.proofs.divisors.gcd_of_words.Goals as goal

pub returns-clause-value : goal.returns-clause-value
returns-clause-value c = subst (λ n. IsGcd c.args.a c.args.b n) (sym c.gcd.ensures.value) (gcd_is c.args.a c.args.b)
