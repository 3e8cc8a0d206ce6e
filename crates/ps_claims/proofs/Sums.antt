-- Sums over a distribution of what a dual combines.
use Rattle.std.proofs.Common.{◌≡◌, ℕ, ℤ, pos, ◌*ℤ◌, ◌≤ℤ◌, Bool, true, false, List, [], ◌∷◌, get_or, refl, arith}
use Rattle.std.proofs.lemmas.Int.{ints}
use Rattle.std.proofs.lemmas.List.Elements.{All-tail}
use Rattle.std.proofs.Math.IntN.{zero-*ℤ}
use Rattle.ps_meaning.specs.Formula.{World, Formula}
use Rattle.ps_meaning.specs.Distribution.{Entry, weight, IsDistribution}
use Rattle.ps_meaning.specs.declared.side.Side.{Side}
use Rattle.ps_meaning.specs.declared.side.Side.TheVariants.{AtLeast, AtMost, Exactly}
use Rattle.ps_meaning.specs.Bounds.{Compares}
use Rattle.ps_meaning.specs.Rows.{Row, indicator, row_in, weighted_sum, MeetsRow}
use Rattle.ps_meaning.proofs.Integers.{mul-nonneg, mul-zero}
use Rattle.ps_meaning.proofs.Rows.{weighted_sum-indicator, weighted_sum-add, weighted_sum-scale, weighted_sum-nonpos}
use Rattle.ps_claims.specs.Duals.{HasSign, HaveSigns, kept_of, AreZeroElsewhere, sum_of_rows, IsNeverAbove}
use Rattle.ps_claims.specs.Rows.{MeetsRows}
use Rattle.ps_claims.proofs.Products.{mul-nonpos_nonpos}

-- a number on its side of 0, times a multiplier that isn't of the wrong sign
sign-product : (side : Side) (y s : ℤ) → HasSign side y → Compares side s (pos 0) → pos 0 ≤ℤ (y *ℤ s)
sign-product AtLeast y s sign c = mul-nonneg y s sign c
sign-product AtMost y s sign c = mul-nonpos_nonpos y s sign c
sign-product Exactly y s sign c = rw (c, mul-zero y) (omega (arith, ints))

weighted_sum-none : (d : List Entry) → weighted_sum d (λ w. pos 0) ≡ pos 0
weighted_sum-none [] = refl
weighted_sum-none (e ∷ d) = omega (arith, ints, mul-zero e.weight, weighted_sum-none d)

-- one row more in front, whose part is at least 0
rows-more : (r : Row) (rs : List Row) (y : ℤ) (ys : List ℤ) (d : List Entry) → pos 0 ≤ℤ (y *ℤ weighted_sum d (row_in r)) → pos 0 ≤ℤ weighted_sum d (sum_of_rows rs ys)
    → pos 0 ≤ℤ weighted_sum d (sum_of_rows (r ∷ rs) (y ∷ ys))
rows-more r rs y ys d own more = omega (arith, ints, weighted_sum-add d (λ w. y *ℤ row_in r w) (sum_of_rows rs ys), weighted_sum-scale d y (row_in r), own, more)

row-met : (r : Row) (y : ℤ) (d : List Entry) → HasSign r.side y → MeetsRow r d → pos 0 ≤ℤ (y *ℤ weighted_sum d (row_in r))
row-met r y d sign met = sign-product r.side y (weighted_sum d (row_in r)) sign met

-- over a distribution that meets them rows sum with such multipliers to at least 0
pub weighted_sum-rows : (rows : List Row) (ys : List ℤ) (d : List Entry) → HaveSigns rows ys → MeetsRows rows d → pos 0 ≤ℤ weighted_sum d (sum_of_rows rows ys)
weighted_sum-rows [] ys d signs met = rw (weighted_sum-none d) (omega (arith, ints))
weighted_sum-rows (r ∷ rs) [] d signs met = absurd signs
weighted_sum-rows (r ∷ rs) (y ∷ ys) d signs met =
    rows-more r rs y ys d (row-met r y d signs.0 (met 0 r (omega arith))) (weighted_sum-rows rs ys d signs.1 (All-tail (λ x. MeetsRow x d) r rs met))

-- it need meet only the rows that are kept, where the others have multiplier 0
pub weighted_sum-kept : (kept : List Bool) (rows : List Row) (ys : List ℤ) (d : List Entry) → HaveSigns rows ys → AreZeroElsewhere kept ys → MeetsRows (kept_of kept rows) d
    → pos 0 ≤ℤ weighted_sum d (sum_of_rows rows ys)
weighted_sum-kept kept [] ys d signs zero met = rw (weighted_sum-none d) (omega (arith, ints))
weighted_sum-kept kept (r ∷ rs) [] d signs zero met = absurd signs
weighted_sum-kept [] (r ∷ rs) (y ∷ ys) d signs zero met = absurd zero
weighted_sum-kept (true ∷ ks) (r ∷ rs) (y ∷ ys) d signs zero met =
    rows-more r rs y ys d (row-met r y d signs.0 (met 0 r (omega arith))) (weighted_sum-kept ks rs ys d signs.1 zero.1 (All-tail (λ x. MeetsRow x d) r (kept_of ks rs) met))
weighted_sum-kept (false ∷ ks) (r ∷ rs) (y ∷ ys) d signs zero met =
    let none : pos 0 ≤ℤ (y *ℤ weighted_sum d (row_in r)) = rw (zero.0 refl, zero-*ℤ (weighted_sum d (row_in r))) (omega (arith, ints)) in
    rows-more r rs y ys d none (weighted_sum-kept ks rs ys d signs.1 zero.1 met)

-- the sum of a number in the worlds where a formula is true
pub weighted_sum-times : (d : List Entry) (k : ℤ) (f : Formula ℕ) → weighted_sum d (λ w. k *ℤ indicator f w) ≡ k *ℤ weight d f
weighted_sum-times d k f = rw (weighted_sum-scale d k (indicator f), weighted_sum-indicator d f) refl

-- a number that is never above 0 has no sum above 0
pub weighted_sum-never_above : (atoms : ℕ) (d : List Entry) (F : World → ℤ) → IsDistribution atoms d → IsNeverAbove atoms F → weighted_sum d F ≤ℤ pos 0
weighted_sum-never_above atoms d F h never = weighted_sum-nonpos d F h.weighed (λ i e lt. never.at (get_or d i e).world (h.worlds i e lt))
