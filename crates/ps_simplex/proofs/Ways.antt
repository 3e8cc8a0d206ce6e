-- The ways to choose, from one number of things to the next.
use Rattle.std.proofs.Common.{◌≡◌, ℕ, zero, suc, ◌+◌, ◌*◌, ◌/◌, ◌≤◌, refl, sym, ap, ◌∙◌, subst, arith, inl, inr}
use Rattle.std.proofs.lemmas.Bool.{cases_eq}
use Rattle.std.proofs.Math.Nat.{mul-div_cancel_left}
use Rattle.ps_simplex.specs.Count.{choose}

pub suc_is : (k : ℕ) → suc k ≡ k + 1
suc_is k = omega arith

pub choose_none : (n : ℕ) → choose n 0 ≡ 1
unfolding choose
choose_none n = refl

pub choose_next : (n k : ℕ) → choose (suc n) (suc k) ≡ choose n k + choose n (suc k)
unfolding choose
choose_next n k = refl

choose_of_none : (k : ℕ) → choose 0 (suc k) ≡ 0
unfolding choose
choose_of_none k = refl

-- one of the chosen things, and the choice of the others
pub one_and_others : (n k : ℕ) → suc k * choose (suc n) (suc k) ≡ suc n * choose n k
one_and_others zero zero =
    let a = choose_next 0 0 in
    let b = choose_none 0 in
    let c = choose_of_none 0 in
    omega (arith, a, b, c)
one_and_others zero (suc k) =
    let a = choose_next 0 (suc k) in
    let b = choose_of_none k in
    let c = choose_of_none (suc k) in
    let e : choose 1 (suc (suc k)) ≡ 0 = omega (arith, a, b, c) in
    ap (λ z. suc (suc k) * z) e ∙ omega (arith, b)
one_and_others (suc n) zero =
    let a = choose_next (suc n) 0 in
    let b = choose_none (suc n) in
    let c = one_and_others n zero in
    let d = choose_none n in
    let e = ap (λ z. suc n * z) d in
    let f = ap (λ z. suc (suc n) * z) b in
    omega (arith, a, b, c, e, f)
one_and_others (suc n) (suc k) =
    let a = choose_next (suc n) (suc k) in
    let b = choose_next n k in
    let c = one_and_others n k in
    let d = one_and_others n (suc k) in
    let e = ap (λ z. suc (suc k) * z) a in
    let f = ap (λ z. suc n * z) b in
    omega (arith, b, c, d, e, f)

-- no fewer ways with one more thing that is chosen
one_rise : (m k : ℕ) → choose (m + k) k ≤ choose (m + suc k) (suc k)
one_rise m k =
    let e : suc (m + k) ≡ m + suc k = omega arith in
    let f = choose_next (m + k) k in
    let g = ap (λ z. choose z (suc k)) e in
    omega (arith, f, g)

pub ways_rise : (m j k : ℕ) → j ≤ k → choose (m + j) j ≤ choose (m + k) k
ways_rise m j zero h = let e : j ≡ zero = omega (arith, h) in subst (λ z. choose (m + z) z ≤ choose (m + zero) zero) (sym e) (omega arith)
ways_rise m j (suc k) h =
    elim (cases_eq j (suc k)) [
      | inl e ↦ subst (λ z. choose (m + z) z ≤ choose (m + suc k) (suc k)) (sym e) (omega arith)
      | inr ne ↦ let a = ways_rise m j k (omega (arith, h, ne)) in let b = one_rise m k in omega (arith, a, b)
    ]

pub next_is : (m k : ℕ) → (choose (m + k) k * suc (m + k)) / suc k ≡ choose (m + suc k) (suc k)
next_is m k =
    let e : suc (m + k) ≡ m + suc k = omega arith in
    let f = one_and_others (m + k) k in
    let g : choose (m + k) k * suc (m + k) ≡ suc k * choose (suc (m + k)) (suc k) = omega (arith, f) in
    ap (λ z. z / suc k) g ∙ mul-div_cancel_left (choose (suc (m + k)) (suc k)) (omega arith) ∙ ap (λ z. choose z (suc k)) e

-- one of so many things
pub one_of : (m : ℕ) → choose (m + 1) 1 ≡ suc m
one_of m =
    let e = one_and_others m 0 in
    let f = choose_none m in
    let g : suc m ≡ m + 1 = omega arith in
    let h = ap (λ z. choose z 1) g in
    let i = ap (λ z. suc m * z) f in
    omega (arith, e, h, i)

-- the ways with 0, 1 and so on up to m further things, one after the other
pub sum_of_ways : ℕ → ℕ → ℕ
sum_of_ways r zero = choose r r
sum_of_ways r (suc m) = sum_of_ways r m + choose (r + suc m) r

-- no way to choose more than there are
all_beyond : (r d : ℕ) → choose r (suc (r + d)) ≡ 0
unfolding choose
all_beyond zero d = refl
all_beyond (suc r) d =
    let e : suc r + d ≡ suc (r + d) = omega arith in
    let f = ap (λ z. choose (suc r) (suc z)) e in
    let a = all_beyond r d in
    let g : suc (suc (r + d)) ≡ suc (r + suc d) = omega arith in
    let b = ap (choose r) g ∙ all_beyond r (suc d) in
    omega (arith, f, a, b)

-- all of them in one way
all_of : (r : ℕ) → choose r r ≡ 1
all_of zero = choose_none 0
all_of (suc r) =
    let a = choose_next r r in
    let b = all_of r in
    let e : suc r ≡ suc (r + 0) = omega arith in
    let c = ap (choose r) e ∙ all_beyond r 0 in
    omega (arith, a, b, c)

pub sum_of_ways_is : (r m : ℕ) → sum_of_ways r m ≡ choose (suc (r + m)) (suc r)
unfolding sum_of_ways
sum_of_ways_is r zero =
    let e : suc r ≡ suc (r + zero) = omega arith in
    let a = all_of r in
    let b = all_of (suc r) in
    let c = ap (λ z. choose z (suc r)) e in
    omega (arith, a, b, c)
sum_of_ways_is r (suc m) =
    let a = sum_of_ways_is r m in
    let b = choose_next (r + suc m) r in
    let e : suc (r + m) ≡ r + suc m = omega arith in
    let c = ap (λ z. choose z (suc r)) e in
    omega (arith, a, b, c)

-- no fewer ways with more things
one_thing_more : (n k : ℕ) → choose n k ≤ choose (suc n) k
unfolding choose
one_thing_more n zero = omega arith
one_thing_more n (suc k) = omega arith

pub more_things : (n m k : ℕ) → n ≤ m → choose n k ≤ choose m k
more_things n zero k h = let e : n ≡ zero = omega (arith, h) in subst (λ z. choose z k ≤ choose zero k) (sym e) (omega arith)
more_things n (suc m) k h =
    elim (cases_eq n (suc m)) [
      | inl e ↦ subst (λ z. choose z k ≤ choose (suc m) k) (sym e) (omega arith)
      | inr ne ↦ let a = more_things n m k (omega (arith, h, ne)) in let b = one_thing_more m k in omega (arith, a, b)
    ]
