-- A Dutch book bounds what distributions miss.
use Rattle.std.proofs.Common.{◌≡◌, ℕ, zero, suc, ◌*◌, get_or, ℤ, pos, negsuc, neg_ℤ, ◌+ℤ◌, ◌-ℤ◌, ◌*ℤ◌, ◌≤ℤ◌, List, [], ◌∷◌, unsigned_abs, All, sym, refl, ap, ◌∙◌, arith}
use Rattle.std.proofs.lemmas.Int.{ints}
use Rattle.std.proofs.lemmas.List.Elements.{All-head, All-tail}
use Rattle.ps_meaning.specs.Distribution.{Entry, total, IsDistribution}
use Rattle.ps_meaning.specs.declared.side.Side.{Side}
use Rattle.ps_meaning.specs.declared.side.Side.TheVariants.{AtLeast, AtMost, Exactly}
use Rattle.ps_meaning.specs.Rational.{Rational}
use Rattle.ps_meaning.specs.Rows.{Row, row_in, weighted_sum}
use Rattle.ps_meaning.proofs.Rows.{weighted_sum-add, weighted_sum-scale, weighted_sum-nonpos}
use Rattle.ps_meaning.proofs.Integers.{mul_add, mul_sub, mul_assoc, swap_mul, mul-nonneg, mul-zero}
use Rattle.ps_meaning.proofs.IntRing.{neg-*ℤ, *ℤ_comm}
use Rattle.ps_claims.specs.Duals.{Dual, HasSign, HaveSigns, sum_of_rows}
use Rattle.ps_widening.specs.Widenings.{missed_by, miss, missed, IsWidenedAtLeast}
use Rattle.ps_widening.specs.Books.{IsBook}
use Rattle.ps_claims.proofs.Products.{ratio-least}

-- what a book makes of the sums of rows
abbrev sums : List Row → List ℤ → List Entry → ℤ
sums [] ys d = pos 0
sums (r ∷ rs) [] d = pos 0
sums (r ∷ rs) (y ∷ ys) d = (y *ℤ weighted_sum d (row_in r)) +ℤ sums rs ys d

zero-sum : (d : List Entry) → weighted_sum d (λ w. pos 0) ≡ pos 0
zero-sum [] = refl
zero-sum (e ∷ d) = let h = zero-sum d in let z = mul-zero e.weight in omega (arith, ints, h, z)

-- the sum of a number that counts in each world
base-sum : (k : ℤ) (d : List Entry) → weighted_sum d (λ w. k) ≡ k *ℤ total d
base-sum k [] = sym (mul-zero k)
base-sum k (e ∷ d) = let h = base-sum k d in let c = *ℤ_comm e.weight k in let m = mul_add k e.weight (total d) in omega (arith, ints, h, c, m)

sums-are : (rs : List Row) (ys : List ℤ) (d : List Entry) → weighted_sum d (sum_of_rows rs ys) ≡ sums rs ys d
sums-are [] ys d = zero-sum d
sums-are (r ∷ rs) [] d = zero-sum d
sums-are (r ∷ rs) (y ∷ ys) d =
    weighted_sum-add d (λ w. y *ℤ row_in r w) (sum_of_rows rs ys) ∙ (λ i. weighted_sum-scale d y (row_in r) i +ℤ sums-are rs ys d i)

-- the greater of two factors makes the greater product
pub times-more : (a b c : ℤ) → a ≤ℤ b → pos 0 ≤ℤ c → (a *ℤ c) ≤ℤ (b *ℤ c)
times-more a b c h k =
    let p = mul-nonneg c (b -ℤ a) k (omega (arith, ints, h)) in
    let m = mul_sub c b a in
    let x = *ℤ_comm a c in
    let y = *ℤ_comm b c in
    omega (arith, ints, p, m, x, y)

neg-right : (a b : ℤ) → a *ℤ neg_ℤ b ≡ neg_ℤ (a *ℤ b)
neg-right a b = *ℤ_comm a (neg_ℤ b) ∙ neg-*ℤ b a ∙ ap neg_ℤ (*ℤ_comm b a)

stake-of : (y : ℤ) (unit : ℕ) (top : ℤ) → pos (unsigned_abs y * unit) ≤ℤ top → (pos (unsigned_abs y) *ℤ pos unit) ≤ℤ top
stake-of y unit top h = omega (arith, ints, h)

-- a product that is at least minus the stake's
against : (unit : ℕ) (top y s : ℤ) (m : ℕ) → pos (unsigned_abs y * unit) ≤ℤ top → neg_ℤ (y *ℤ s) ≤ℤ (pos (unsigned_abs y) *ℤ pos m)
    → neg_ℤ (pos unit *ℤ (y *ℤ s)) ≤ℤ (top *ℤ pos m)
against unit top y s m h k =
    let a = times-more (neg_ℤ (y *ℤ s)) (pos (unsigned_abs y) *ℤ pos m) (pos unit) k (omega (arith, ints)) in
    let b = times-more (pos (unsigned_abs y) *ℤ pos unit) top (pos m) (stake-of y unit top h) (omega (arith, ints)) in
    let c = neg-*ℤ (y *ℤ s) (pos unit) in
    let e = *ℤ_comm (y *ℤ s) (pos unit) in
    let f = mul_assoc (pos (unsigned_abs y)) (pos m) (pos unit) ∙ ap (λ z. pos (unsigned_abs y) *ℤ z) (*ℤ_comm (pos m) (pos unit)) ∙ sym (mul_assoc (pos (unsigned_abs y)) (pos unit) (pos m)) in
    omega (arith, ints, a, b, c, e, f)

nonneg : (n k : ℕ) → pos 0 ≤ℤ (pos n *ℤ pos k)
nonneg n k = mul-nonneg (pos n) (pos k) (omega (arith, ints)) (omega (arith, ints))

-- minus a product is at most that of the sizes, and where the signs are the same it is at most 0
core : (side : Side) (y s : ℤ) → HasSign side y → neg_ℤ (y *ℤ s) ≤ℤ (pos (unsigned_abs y) *ℤ pos (missed_by side s))
core AtLeast (pos n) (pos k) h = let p = nonneg n k in let z = mul-zero (pos n) in omega (arith, ints, p, z)
core AtLeast (pos n) (negsuc k) h = let e = neg-right (pos n) (pos (suc k)) in omega (arith, ints, e)
core AtLeast (negsuc n) s h = absurd (omega (arith, ints, h))
core AtMost (pos zero) s h =
    let z = mul-zero s in
    let c = *ℤ_comm (pos 0) s in
    let y = mul-zero (pos (missed_by AtMost s)) in
    let x = *ℤ_comm (pos 0) (pos (missed_by AtMost s)) in
    omega (arith, ints, z, c, y, x)
core AtMost (pos (suc n)) s h = absurd (omega (arith, ints, h))
core AtMost (negsuc n) (pos k) h = let e = neg-*ℤ (pos (suc n)) (pos k) in omega (arith, ints, e)
core AtMost (negsuc n) (negsuc k) h =
    let p = nonneg (suc n) (suc k) in
    let e = neg-*ℤ (pos (suc n)) (negsuc k) in
    let f = neg-right (pos (suc n)) (pos (suc k)) in
    let z = mul-zero (pos (suc n)) in
    omega (arith, ints, p, e, f, z)
core Exactly (pos n) (pos k) h = let p = nonneg n k in omega (arith, ints, p)
core Exactly (pos n) (negsuc k) h = let e = neg-right (pos n) (pos (suc k)) in omega (arith, ints, e)
core Exactly (negsuc n) (pos k) h = let e = neg-*ℤ (pos (suc n)) (pos k) in omega (arith, ints, e)
core Exactly (negsuc n) (negsuc k) h =
    let p = nonneg (suc n) (suc k) in
    let e = neg-*ℤ (pos (suc n)) (negsuc k) in
    let f = neg-right (pos (suc n)) (pos (suc k)) in
    omega (arith, ints, p, e, f)

-- what the rows take from a head is at most the stakes' part of what is missed
rows-bound : (unit : ℕ) (top : ℤ) (rs : List Row) (ys : List ℤ) (d : List Entry) → HaveSigns rs ys → All (λ y. pos (unsigned_abs y * unit) ≤ℤ top) ys
    → neg_ℤ (pos unit *ℤ sums rs ys d) ≤ℤ (top *ℤ pos (missed rs d))
rows-bound unit top [] [] d h k = let z = mul-zero (pos unit) in let y = mul-zero top in omega (arith, ints, z, y)
rows-bound unit top [] (y ∷ ys) d h k = absurd h
rows-bound unit top (r ∷ rs) [] d h k = absurd h
rows-bound unit top (r ∷ rs) (y ∷ ys) d h k =
    let s = weighted_sum d (row_in r) in
    let first = against unit top y s (miss r d) (All-head (λ y. pos (unsigned_abs y * unit) ≤ℤ top) y ys k) (core r.side y s h.0) in
    let rest = rows-bound unit top rs ys d h.1 (All-tail (λ y. pos (unsigned_abs y * unit) ≤ℤ top) y ys k) in
    let a = mul_add (pos unit) (y *ℤ s) (sums rs ys d) in
    let b = mul_add top (pos (miss r d)) (pos (missed rs d)) in
    omega (arith, ints, first, rest, a, b)

-- the head, counted in the unit, is at most the top's part of what a distribution misses
head-bounds : (atoms unit : ℕ) (rows : List Row) (value : Rational) (b : Dual) (d : List Entry) → IsBook atoms unit rows value b → IsDistribution atoms d
    → (b.head *ℤ (pos unit *ℤ total d)) ≤ℤ (b.top *ℤ pos (missed rows d))
head-bounds atoms unit rows value b d book is =
    let whole : weighted_sum d (λ w. b.head +ℤ sum_of_rows rows b.rows w) ≡ b.head *ℤ total d +ℤ sums rows b.rows d =
    weighted_sum-add d (λ w. b.head) (sum_of_rows rows b.rows) ∙ (λ i. base-sum b.head d i +ℤ sums-are rows b.rows d i) in
    let low = weighted_sum-nonpos d (λ w. b.head +ℤ sum_of_rows rows b.rows w) is.weighed (λ i e l. book.never.at (get_or d i e).world (is.worlds i e l)) in
    let m = times-more (b.head *ℤ total d) (neg_ℤ (sums rows b.rows d)) (pos unit) (omega (arith, ints, whole, low)) (omega (arith, ints)) in
    let g = rows-bound unit b.top rows b.rows d book.signs book.stakes in
    let c = *ℤ_comm (b.head *ℤ total d) (pos unit) in
    let e = neg-*ℤ (sums rows b.rows d) (pos unit) in
    let f = *ℤ_comm (sums rows b.rows d) (pos unit) in
    let s = swap_mul b.head (pos unit) (total d) in
    omega (arith, ints, m, g, c, e, f, s)

pub book-bounds : (atoms unit : ℕ) (rows : List Row) (value : Rational) (b : Dual) (d : List Entry) → IsBook atoms unit rows value b → IsDistribution atoms d
    → IsWidenedAtLeast unit rows value d
book-bounds atoms unit rows value b d book is =
    ratio-least b.head b.top value.over (pos value.under) (pos unit *ℤ total d) (pos (missed rows d)) book.head.ratio book.head.top (omega (arith, ints))
    (head-bounds atoms unit rows value b d book is)
