-- Between which numbers bounds lie, by values that are reached.
use Rattle.std.proofs.Common.{◌≡◌, ℕ, ℤ, pos, ◌*ℤ◌, ◌≤ℤ◌, ◌+ℤ◌, Bool, true, false, cond, ◌&&◌, List, [], ◌∷◌, All, refl, arith}
use Rattle.std.proofs.lemmas.Int.{ints}
use Rattle.std.proofs.lemmas.List.Elements.{All-tail}
use Rattle.ps_meaning.specs.Formula.{Formula, And, is_true}
use Rattle.ps_meaning.specs.Distribution.{Entry, weight}
use Rattle.ps_meaning.specs.Bounds.{Bound}
use Rattle.ps_meaning.specs.Gcd.{gcd, gcd_within}
use Rattle.ps_meaning.specs.Rational.{quotient, zero_q, one_q}
use Rattle.ps_meaning.specs.declared.side.Side.TheVariants as side
use Rattle.ps_meaning.proofs.Weights.{weight-nonneg}
use Rattle.ps_claims.specs.Queries.{Query, Holds}
use Rattle.ps_claims.proofs.Tight.{lower-tight, upper-tight}
use Rattle.ps_ask.specs.Reached.{ReachedValuesBound}

-- ---- a conjunction weighs no more than one of its parts
step_and : (a b : Bool) (w rest more : ℤ) → pos 1 ≤ℤ w → rest ≤ℤ more → (cond (a && b) w (pos 0) +ℤ rest) ≤ℤ (cond b w (pos 0) +ℤ more)
step_and true true w rest more h k = omega (arith, ints)
step_and true false w rest more h k = omega (arith, ints)
step_and false true w rest more h k = omega (arith, ints)
step_and false false w rest more h k = omega (arith, ints)

weight_and-most : (d : List Entry) (f g : Formula ℕ) → All (λ e. pos 1 ≤ℤ e.weight) d → weight d (And f g) ≤ℤ weight d g
weight_and-most [] f g h = omega (arith, ints)
weight_and-most (e ∷ d) f g h =
    step_and (is_true f e.world) (is_true g e.world) e.weight _ _ (h 0 e (omega arith))
    (weight_and-most d f g (All-tail (λ x. pos 1 ≤ℤ x.weight) e d h))

-- ---- 0 and 1 are bounds
zero_over : (zero_q.over ≡ pos 0) × (zero_q.under ≡ 1)
unfolding zero_q quotient gcd gcd_within
zero_over = (refl, refl)

one_over : (one_q.over ≡ pos 1) × (one_q.under ≡ 1)
unfolding one_q quotient gcd gcd_within
one_over = (refl, refl)

low : (over both evidence : ℤ) (under : ℕ) → over ≡ pos 0 → under ≡ 1 → pos 0 ≤ℤ both → (over *ℤ evidence) ≤ℤ (pos under *ℤ both)
low over both evidence under e f h = rw (e, f) (omega (arith, ints))

high : (over both evidence : ℤ) (under : ℕ) → over ≡ pos 1 → under ≡ 1 → both ≤ℤ evidence → (pos under *ℤ both) ≤ℤ (over *ℤ evidence)
high over both evidence under e f h = rw (e, f) (omega (arith, ints))

zero_holds : (atoms : ℕ) (bounds : List Bound) (q : Query) → Holds atoms bounds q side.AtLeast zero_q
zero_holds atoms bounds q = record {
  met = λ d h. low zero_q.over (weight d (And q.formula q.evidence)) (weight d q.evidence) zero_q.under zero_over.0 zero_over.1
      (weight-nonneg d (And q.formula q.evidence) h.model.distribution.weighed);
}

one_holds : (atoms : ℕ) (bounds : List Bound) (q : Query) → Holds atoms bounds q side.AtMost one_q
one_holds atoms bounds q = record {
  met = λ d h. high one_q.over (weight d (And q.formula q.evidence)) (weight d q.evidence) one_q.under one_over.0 one_over.1
      (weight_and-most d q.formula q.evidence h.model.distribution.weighed);
}

pub reached_bound : ReachedValuesBound
reached_bound p q r h = record {
  lower = record { holds = zero_holds _ _ _; none_above = λ x k. lower-tight _ _ _ r.least x _ h.least.reached k };
  upper = record { holds = one_holds _ _ _; none_below = λ x k. upper-tight _ _ _ r.greatest x _ h.greatest.reached k };
}
