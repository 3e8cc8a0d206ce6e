-- Products with 0 and sums with 0 are never too large.
use Rattle.std.proofs.Common.{◌≡◌, ℕ, ◌/◌, ◌<◌, ℤ, pos, ◌*ℤ◌, unsigned_abs, int_div, [], ◌∷◌, sym, refl, ap, ◌∙◌, subst, arith}
use Rattle.std.proofs.lemmas.Int.{ints}
use Rattle.std.proofs.lemmas.Nat.Gcd.{IsGcd-swap, IsGcd-from_zero, same_from_IsGcd}
use Rattle.std.proofs.Math.Nat.{zero-div, eq-one_of_dvd-one}
use Rattle.std.proofs.Math.IntN.{zero-*ℤ}
use Rattle.std.specs.Int.{IsGcd, ◌∣◌}
use Rattle.ps_meaning.specs.Gcd.{gcd, gcd_within}
use Rattle.ps_meaning.specs.Coprime.{gcd_is}
use Rattle.ps_meaning.specs.Rational.{Rational, IsLowestTerms, quotient, add, neg, zero_q}
use Rattle.ps_meaning.specs.Wide.{Fits, size_limit, product_over, product_under, ProductIsWide, sum_left, sum_right, sum_over, sum_under, SumIsWide}
use Rattle.ps_meaning.proofs.Ring.{var, plus, minus, none}
use Rattle.ps_meaning.proofs.Field.{ring_q, zero_over}
use Rattle.ps_meaning.proofs.IntRing.{*ℤ_comm}
use Rattle.ps_meaning.proofs.NamedNumbers.{product_lowest, sum_gcd, sum_lowest_terms, is_sum}

zero_under : zero_q.under ≡ 1
unfolding zero_q quotient gcd gcd_within
zero_under = refl

-- over 0 in lowest terms stands 1
under_zero : (z : ℤ) (d : ℕ) → IsLowestTerms z d → z ≡ pos 0 → d ≡ 1
under_zero z d h e =
    same_from_IsGcd 0 d d 1 (IsGcd-swap d 0 d (IsGcd-from_zero d 0 refl)) (subst (λ k. IsGcd (unsigned_abs k) d 1) e h.coprime)

quotient_zero : (z : ℤ) (g : ℕ) → z ≡ pos 0 → int_div z (pos g) ≡ pos 0
quotient_zero z g e = ap (λ k. int_div k (pos g)) e ∙ ap pos (zero-div g)

left_zero : (y : Rational) → product_over zero_q y ≡ pos 0
left_zero y =
    ap (λ k. k *ℤ int_div y.over (pos (gcd (unsigned_abs y.over) zero_q.under))) (quotient_zero zero_q.over (gcd (unsigned_abs zero_q.over) y.under) (zero_over zero_q refl))
    ∙ zero-*ℤ (int_div y.over (pos (gcd (unsigned_abs y.over) zero_q.under)))

right_zero : (x : Rational) → product_over x zero_q ≡ pos 0
right_zero x =
    let a = int_div x.over (pos (gcd (unsigned_abs x.over) zero_q.under)) in
    ap (λ k. a *ℤ k) (quotient_zero zero_q.over (gcd (unsigned_abs zero_q.over) x.under) (zero_over zero_q refl)) ∙ *ℤ_comm a (pos 0) ∙ zero-*ℤ a

narrow_product : (x y : Rational) → product_over x y ≡ pos 0 → ¬ ProductIsWide x y
unfolding ProductIsWide
narrow_product x y e = λ wide.
    let u : product_under x y ≡ 1 = under_zero (product_over x y) (product_under x y) (product_lowest x y) e in
    wide (omega (arith, ints, e), omega (arith, u))

pub left_narrow : (y : Rational) → ¬ ProductIsWide zero_q y
left_narrow y = narrow_product zero_q y (left_zero y)

pub right_narrow : (x : Rational) → ¬ ProductIsWide x zero_q
right_narrow x = narrow_product x zero_q (right_zero x)

-- ---- sums
gcd_under : (x : Rational) → gcd x.under zero_q.under ≡ 1
gcd_under x = eq-one_of_dvd-one (subst (λ k. gcd x.under zero_q.under ∣ k) zero_under (gcd_is x.under zero_q.under).1)

sum_left_is : (x : Rational) → sum_left x zero_q ≡ x.over
sum_left_is x =
    let u : zero_q.under / gcd x.under zero_q.under ≡ 1 = λ i. zero_under i / gcd_under x i in
    ap (λ k. x.over *ℤ pos k) u ∙ *ℤ_comm x.over (pos 1) ∙ omega (arith, ints)

sum_right_is : (x : Rational) → sum_right x zero_q ≡ pos 0
sum_right_is x = ap (λ k. k *ℤ pos (x.under / gcd x.under zero_q.under)) (zero_over zero_q refl) ∙ zero-*ℤ (pos (x.under / gcd x.under zero_q.under))

under_of : Rational → ℕ
under_of x = x.under

sum_under_is : (x : Rational) → sum_under x zero_q ≡ x.under
unfolding under_of
sum_under_is x =
    let r : Rational = record { over = int_div (sum_over x zero_q) (pos (sum_gcd x zero_q)); under = sum_under x zero_q; lowest = sum_lowest_terms x zero_q } in
    let e : r ≡ add x zero_q = is_sum x zero_q r refl refl in
    ap under_of (e ∙ ring_q (x ∷ []) (plus (var 0) none) (var 0) refl)

pub sum_narrow : (x : Rational) → Fits x.over → x.under < size_limit → ¬ SumIsWide x zero_q
unfolding SumIsWide
sum_narrow x ho hu = λ wide.
    let a = sum_left_is x in
    let b = sum_right_is x in
    let u = sum_under_is x in
    wide ((omega (arith, ints, a, ho), omega (arith, ints, b), omega (arith, ints, a, b, ho)), omega (arith, u, hu))

pub difference_narrow : (x : Rational) → Fits x.over → x.under < size_limit → ¬ SumIsWide x (neg zero_q)
difference_narrow x ho hu =
    let e : neg zero_q ≡ zero_q = ring_q [] (minus none) none refl in
    subst (λ k. ¬ SumIsWide x k) (sym e) (sum_narrow x ho hu)
