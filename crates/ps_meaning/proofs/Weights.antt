-- Weights of formulas over lists of weighted worlds.
use Rattle.std.proofs.Common.{◌≡◌, ℕ, pos, ◌+ℤ◌, ◌≤ℤ◌, Bool, true, false, cond, ◌&&◌, List, [], ◌∷◌, ◌++◌, All, refl, arith}
use Rattle.std.proofs.lemmas.Int.{ints}
use Rattle.std.proofs.lemmas.List.Elements.{All-tail}
use Rattle.ps_meaning.specs.Formula.{Formula, Truth, And, is_true}
use Rattle.ps_meaning.specs.Distribution.{Entry, weight, total, IsDistribution}

pub weight-append : (d e : List Entry) (f : Formula ℕ) → weight (d ++ e) f ≡ weight d f +ℤ weight e f
weight-append [] e f = omega (arith, ints)
weight-append (x ∷ d) e f = omega (arith, ints, weight-append d e f)

and_true : (b : Bool) → b && true ≡ b
and_true true = refl
and_true false = refl

-- a formula and truth weigh what the formula does
pub weight-and_truth : (d : List Entry) (f : Formula ℕ) → weight d (And f Truth) ≡ weight d f
weight-and_truth [] f = refl
weight-and_truth (e ∷ d) f = rw (and_true (is_true f e.world), weight-and_truth d f) refl

-- no formula weighs less than nothing
pub weight-nonneg : (d : List Entry) (f : Formula ℕ) → All (λ e. pos 1 ≤ℤ e.weight) d → pos 0 ≤ℤ weight d f
weight-nonneg [] f h = omega (arith, ints)
weight-nonneg (e ∷ d) f h = by (is_true f e.world) (h 0 e (omega arith)) (weight-nonneg d f (All-tail (λ x. pos 1 ≤ℤ x.weight) e d h))
  where
    by : (b : Bool) → pos 1 ≤ℤ e.weight → pos 0 ≤ℤ weight d f → pos 0 ≤ℤ (cond b e.weight (pos 0) +ℤ weight d f)
    by true w more = omega (arith, ints)
    by false w more = omega (arith, ints)

-- nor more than all worlds
pub weight-most : (d : List Entry) (f : Formula ℕ) → All (λ e. pos 1 ≤ℤ e.weight) d → weight d f ≤ℤ total d
weight-most [] f h = omega (arith, ints)
weight-most (e ∷ d) f h = by (is_true f e.world) (h 0 e (omega arith)) (weight-most d f (All-tail (λ x. pos 1 ≤ℤ x.weight) e d h))
  where
    by : (b : Bool) → pos 1 ≤ℤ e.weight → weight d f ≤ℤ total d → (cond b e.weight (pos 0) +ℤ weight d f) ≤ℤ (e.weight +ℤ total d)
    by true w more = omega (arith, ints)
    by false w more = omega (arith, ints)

-- a distribution weighs something
pub total-positive : (atoms : ℕ) (d : List Entry) → IsDistribution atoms d → pos 1 ≤ℤ total d
total-positive atoms [] h = absurd (omega (arith, h.some))
total-positive atoms (e ∷ d) h =
    let first : pos 1 ≤ℤ e.weight = h.weighed 0 e (omega arith) in
    let more : pos 0 ≤ℤ total d = weight-nonneg d Truth (All-tail (λ x. pos 1 ≤ℤ x.weight) e d h.weighed) in
    omega (arith, ints)
