-- A quotient in lowest terms is a value exactly where the cross products are equal.
use Rattle.std.proofs.Common.{◌≡◌, zero, suc, ℤ, pos, negsuc, ap, ◌<ℤ◌, ◌*ℤ◌, unsigned_abs, arith}
use Rattle.std.specs.Prelude.{◌↔◌}
use Rattle.std.proofs.lemmas.Int.{ints}
use Rattle.ps_meaning.specs.Rational.{Rational, fraction, rational_path}
use Rattle.ps_claims.proofs.Tight.{ratio-quotient, quotient-ratio}

pub quotients : (value : Rational) (over under : ℤ) → pos 0 <ℤ under → (fraction over (unsigned_abs under) ≡ value) ↔ ((over *ℤ pos value.under) ≡ (value.over *ℤ under))
quotients value over (pos zero) above = absurd (omega (arith, ints, above))
quotients value over (pos (suc n)) above = (λ e. quotient-ratio value over (suc n) (omega arith) e, λ e. ratio-quotient value over (suc n) (omega arith) e)
quotients value over (negsuc n) above = absurd (omega (arith, ints, above))

pub same_number : (x y : Rational) → x.over ≡ y.over → pos x.under ≡ pos y.under → x ≡ y
same_number x y over under = rational_path x y over (ap unsigned_abs under)

pub same_parts : (x y : Rational) → x ≡ y → (x.over ≡ y.over) × (pos x.under ≡ pos y.under)
same_parts x y e = (ap (λ (q : Rational). q.over) e, ap (λ (q : Rational). pos q.under) e)
