use Rattle.std.proofs.Common.{◌≡◌, refl, rules}
use Rattle.std.specs.Prelude.{unsigned_abs}
use Rattle.ps_meaning.specs.Rational.{fraction}
use Rattle.ps_claims.specs.Certificates.{dual_of}
use Rattle.ps_generation.proofs.Values.{head_of_value}
use Rattle.ps_generation.proofs.answers.bound.Goals as goal

pub returns-in-Ok-clause-bound : goal.returns-in-Ok-clause-bound
returns-in-Ok-clause-bound c =
    let found = rw c.in-Ok.is at c.in_ok-model.ensures.found in
    let value : c.new.result ≡ fraction c.args.dual.head (unsigned_abs c.args.dual.top) = search rules in
    (found, refl, head_of_value c.new.result (dual_of c.args.dual) c.requires.top value)
