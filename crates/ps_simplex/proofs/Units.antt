-- Units.
use Rattle.std.proofs.Common.{◌≡◌, ◌≢◌, ℕ, suc, ◌-◌, cond, eq-eqb, refl, ap, arith}
use Rattle.std.proofs.lemmas.Bool.{ne_eqb}
use Rattle.ps_meaning.specs.Rational.{zero_q, one_q}
use Rattle.ps_simplex.specs.Table.{unit_at}

pub less_one : (i : ℕ) → suc i - 1 ≡ i
less_one i = omega arith

pub unit_at-same : (i : ℕ) → unit_at i i ≡ one_q
unit_at-same i = rw (eq-eqb i i refl) refl

pub unit_at-other : (i j : ℕ) → i ≢ j → unit_at i j ≡ zero_q
unit_at-other i j ne = ap (λ b. cond b one_q zero_q) (ne_eqb i j ne)
