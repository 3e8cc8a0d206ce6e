-- Sums over a distribution, and a bound as the sum of its row.
use Rattle.std.proofs.Common.{◌≡◌, ◌↔◌, ℕ, ℤ, pos, ◌+ℤ◌, ◌-ℤ◌, ◌*ℤ◌, ◌≤ℤ◌, Bool, true, false, cond, List, [], ◌∷◌, All, refl, sym, arith}
use Rattle.std.proofs.lemmas.Int.{ints}
use Rattle.std.proofs.lemmas.List.Elements.{All-tail}
use Rattle.ps_meaning.specs.Formula.{Formula, World, And, is_true}
use Rattle.ps_meaning.specs.Distribution.{Entry, weight}
use Rattle.ps_meaning.specs.declared.side.Side.{Side}
use Rattle.ps_meaning.specs.declared.side.Side.TheVariants.{AtLeast, AtMost, Exactly}
use Rattle.ps_meaning.specs.Bounds.{PlainBound, Compares, MeetsPlain}
use Rattle.ps_meaning.specs.Rows.{indicator, row_value, weighted_sum}
use Rattle.ps_meaning.proofs.Integers.{mul_add, mul_sub, swap_mul, mul-zero, mul-one, mul-nonpos}

-- the sum of a formula's indicator is its weight
pub weighted_sum-indicator : (d : List Entry) (f : Formula ℕ) → weighted_sum d (indicator f) ≡ weight d f
weighted_sum-indicator [] f = refl
weighted_sum-indicator (e ∷ d) f = rw (by (is_true f e.world), weighted_sum-indicator d f) refl
  where
    by : (b : Bool) → e.weight *ℤ cond b (pos 1) (pos 0) ≡ cond b e.weight (pos 0)
    by true = mul-one e.weight
    by false = mul-zero e.weight

pub weighted_sum-add : (d : List Entry) (F G : World → ℤ) → weighted_sum d (λ w. F w +ℤ G w) ≡ weighted_sum d F +ℤ weighted_sum d G
weighted_sum-add [] F G = omega (arith, ints)
weighted_sum-add (e ∷ d) F G = omega (arith, ints, mul_add e.weight (F e.world) (G e.world), weighted_sum-add d F G)

pub weighted_sum-sub : (d : List Entry) (F G : World → ℤ) → weighted_sum d (λ w. F w -ℤ G w) ≡ weighted_sum d F -ℤ weighted_sum d G
weighted_sum-sub [] F G = omega (arith, ints)
weighted_sum-sub (e ∷ d) F G = omega (arith, ints, mul_sub e.weight (F e.world) (G e.world), weighted_sum-sub d F G)

pub weighted_sum-scale : (d : List Entry) (k : ℤ) (F : World → ℤ) → weighted_sum d (λ w. k *ℤ F w) ≡ k *ℤ weighted_sum d F
weighted_sum-scale [] k F = sym (mul-zero k)
weighted_sum-scale (e ∷ d) k F = omega (arith, ints, swap_mul e.weight k (F e.world), mul_add k (e.weight *ℤ F e.world) (weighted_sum d F), weighted_sum-scale d k F)

-- a function that is never above 0 has no sum above 0
pub weighted_sum-nonpos : (d : List Entry) (F : World → ℤ) → All (λ e. pos 1 ≤ℤ e.weight) d → All (λ e. F e.world ≤ℤ pos 0) d → weighted_sum d F ≤ℤ pos 0
weighted_sum-nonpos [] F h low = omega (arith, ints)
weighted_sum-nonpos (e ∷ d) F h low =
    let heavy : pos 1 ≤ℤ e.weight = h 0 e (omega arith) in
    let first : (e.weight *ℤ F e.world) ≤ℤ pos 0 = mul-nonpos e.weight (F e.world) (omega (arith, ints)) (low 0 e (omega arith)) in
    let more : weighted_sum d F ≤ℤ pos 0 = weighted_sum-nonpos d F (All-tail (λ x. pos 1 ≤ℤ x.weight) e d h) (All-tail (λ x. F x.world ≤ℤ pos 0) e d low) in
    omega (arith, ints)

-- the sum of a bound's row
pub weighted_sum-row : (b : PlainBound) (d : List Entry) → weighted_sum d (row_value b) ≡ (b.den *ℤ weight d (And b.formula b.given)) -ℤ (b.num *ℤ weight d b.given)
weighted_sum-row b d = rw (
  weighted_sum-sub d (λ w. b.den *ℤ indicator (And b.formula b.given) w) (λ w. b.num *ℤ indicator b.given w),
  weighted_sum-scale d b.den (indicator (And b.formula b.given)),
  weighted_sum-scale d b.num (indicator b.given),
  weighted_sum-indicator d (And b.formula b.given),
  weighted_sum-indicator d b.given,
) refl

-- two numbers compare as their difference does with 0
pub compares-difference : (side : Side) (x y : ℤ) → Compares side x y ↔ Compares side (x -ℤ y) (pos 0)
compares-difference AtLeast x y = ((λ h. omega (arith, ints)), (λ h. omega (arith, ints)))
compares-difference AtMost x y = ((λ h. omega (arith, ints)), (λ h. omega (arith, ints)))
compares-difference Exactly x y = ((λ h. omega (arith, ints)), (λ h. omega (arith, ints)))

-- a bound is met where the sum of its row is on its side of 0
pub meets_row : (b : PlainBound) (d : List Entry) → MeetsPlain b d ↔ Compares b.side (weighted_sum d (row_value b)) (pos 0)
meets_row b d = rw (weighted_sum-row b d) (compares-difference b.side (b.den *ℤ weight d (And b.formula b.given)) (b.num *ℤ weight d b.given))
