-- Bounds as rows.
use Rattle.std.proofs.Common.{◌≡◌, ◌↔◌, ℕ, ℤ, pos, neg_ℤ, ◌+ℤ◌, ◌-ℤ◌, ◌*ℤ◌, List, [], ◌∷◌, sym, refl, ap, ◌∙◌, arith}
use Rattle.std.proofs.lemmas.Int.{ints}
use Rattle.ps_meaning.specs.Formula.{And}
use Rattle.ps_meaning.specs.Distribution.{Entry, weight, total}
use Rattle.ps_meaning.specs.declared.side.Side.{Side}
use Rattle.ps_meaning.specs.Bounds.{Weights, Bound, Plain, Linear, Compares, MeetsBound, sum_of_weights}
use Rattle.ps_meaning.specs.Rows.{indicator, weighted_sum, Row, terms_in, row_in, MeetsRow, row_of}
use Rattle.ps_meaning.proofs.Rows.{weighted_sum-indicator, weighted_sum-add, weighted_sum-scale, compares-difference}
use Rattle.ps_meaning.proofs.Integers.{mul_add, mul-zero}
use Rattle.ps_meaning.proofs.IntRing.{neg-*ℤ, *ℤ_comm}

pub terms-sum : (ts : Weights) (d : List Entry) → weighted_sum d (terms_in ts) ≡ sum_of_weights ts d
terms-sum [] [] = refl
terms-sum [] (e ∷ d) = let h = terms-sum [] d in let z = mul-zero e.weight in omega (arith, ints, h, z)
terms-sum (t ∷ ts) d = weighted_sum-add d (λ w. t.1 *ℤ indicator t.0 w) (terms_in ts)
    ∙ (λ i. (weighted_sum-scale d t.1 (indicator t.0) ∙ ap (λ z. t.1 *ℤ z) (weighted_sum-indicator d t.0)) i +ℤ terms-sum ts d i)

base-sum : (k : ℤ) (d : List Entry) → weighted_sum d (λ w. k) ≡ k *ℤ total d
base-sum k [] = sym (mul-zero k)
base-sum k (e ∷ d) = let h = base-sum k d in let c = *ℤ_comm e.weight k in let m = mul_add k e.weight (total d) in omega (arith, ints, h, c, m)

-- the sum of a row
pub row-sum : (r : Row) (d : List Entry) → weighted_sum d (row_in r) ≡ r.base *ℤ total d +ℤ sum_of_weights r.terms d
row-sum r d = weighted_sum-add d (λ w. r.base) (terms_in r.terms) ∙ (λ i. base-sum r.base d i +ℤ terms-sum r.terms d i)

-- two numbers compare as another does with 0, which is their difference
by_difference : (side : Side) (x y z : ℤ) → z ≡ x -ℤ y → Compares side x y ↔ Compares side z (pos 0)
by_difference side x y z e = rw e (compares-difference side x y)

pub bounds_are_rows : (b : Bound) (d : List Entry) → MeetsBound b d ↔ MeetsRow (row_of b) d
bounds_are_rows (Plain b) d =
    let s = row-sum (row_of (Plain b)) d in
    let n = neg-*ℤ b.num (weight d b.given) in
    let z = mul-zero (total d) in
    let c = *ℤ_comm (pos 0) (total d) in
    by_difference b.side (b.den *ℤ weight d (And b.formula b.given)) (b.num *ℤ weight d b.given) (weighted_sum d (row_in (row_of (Plain b)))) (s ∙ omega (arith, ints, n, z, c))
bounds_are_rows (Linear b) d =
    let s = row-sum (row_of (Linear b)) d in
    let n = neg-*ℤ b.right (total d) in
    by_difference b.side (sum_of_weights b.terms d) (b.right *ℤ total d) (weighted_sum d (row_in (row_of (Linear b)))) (s ∙ omega (arith, ints, n))
