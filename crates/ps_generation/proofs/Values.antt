-- The quotient of head and top is the value.
use Rattle.std.proofs.Common.{◌≡◌, ◌<◌, pos, ◌≤ℤ◌, ◌*ℤ◌, sym, subst, arith}
use Rattle.std.specs.Prelude.{unsigned_abs}
use Rattle.std.proofs.lemmas.Int.{ints}
use Rattle.ps_meaning.specs.Rational.{Rational, fraction}
use Rattle.ps_claims.proofs.Tight.{quotient-ratio}
use Rattle.ps_claims.specs.Duals.{Dual, HasValueHead}

pub head_of_value : (value : Rational) (d : Dual) → pos 1 ≤ℤ d.top → value ≡ fraction d.head (unsigned_abs d.top) → HasValueHead value d
head_of_value value d top is =
    let some : 0 < unsigned_abs d.top = omega (arith, ints, top) in
    let back : pos (unsigned_abs d.top) ≡ d.top = omega (arith, ints, top) in
    record {
      top = top;
      ratio = subst (λ z. d.head *ℤ pos value.under ≡ value.over *ℤ z) back (quotient-ratio value d.head (unsigned_abs d.top) some (sym is));
    }
