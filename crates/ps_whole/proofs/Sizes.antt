-- Sums over one denominator, and products, whose named numbers are small.
use Rattle.std.proofs.Common.{◌≡◌, ℕ, ◌+◌, ◌*◌, ◌/◌, ◌<◌, ◌≤◌, ◌^◌, ℤ, pos, ◌+ℤ◌, unsigned_abs, arith, sym, ap, ◌∙◌, subst}
use Rattle.std.proofs.lemmas.Int.{ints, unsigned_abs-mul}
use Rattle.std.proofs.lemmas.Nat.Gcd.{le_of_dvd}
use Rattle.std.proofs.Math.Nat.{div-mul_cancel, eq_of_mul-eq-mul_right, mul-le-mul, le-mul_of_pos_right, div-le_self}
use Rattle.std.specs.Int.{◌∣◌}
use Rattle.ps_meaning.specs.Gcd.{gcd}
use Rattle.ps_meaning.specs.Coprime.{gcd_is}
use Rattle.ps_meaning.specs.Parts.{part_of, part_pos, quot_abs}
use Rattle.ps_meaning.specs.Rational.{Positive, quotient}
use Rattle.ps_meaning.specs.Wide.{size_limit, sum_left, sum_right, sum_over, sum_under, SumIsWide, ProductIsWide}
use Rattle.ps_meaning.proofs.Cross.{quotient_cross}
use Rattle.ps_meaning.proofs.Multiples.{lcm_is}
use Rattle.ps_meaning.proofs.NamedNumbers.{product_abs}

pub under_divides : (z : ℤ) (d : Positive) → (quotient z d).under ∣ d.value
unfolding quotient
under_divides z d = part_of d.value (gcd (unsigned_abs z) d.value) (gcd_is (unsigned_abs z) d.value).1

-- the terms of a quotient are no larger than those that it was made of
pub under_size : (z : ℤ) (d : Positive) → (quotient z d).under ≤ d.value
under_size z d = le_of_dvd d.positive (under_divides z d)

pub over_size : (z : ℤ) (d : Positive) → unsigned_abs (quotient z d).over ≤ unsigned_abs z
unfolding quotient
over_size z d = subst (λ n. n ≤ unsigned_abs z) (sym (quot_abs z (gcd (unsigned_abs z) d.value))) (div-le_self (unsigned_abs z) (gcd (unsigned_abs z) d.value))

-- a numerator, scaled to a common denominator, is no larger than the numerator there
scaled_size : (a z u v k E : ℕ) → a * E ≡ z * u → k * (v * u) ≡ E → 0 < u → 0 < k → a * v ≤ z
scaled_size a z u v k E cross whole hu hk =
    let e : (a * v * k) * u ≡ z * u = omega (arith, ap (λ n. a * n) whole, cross) in
    let f : a * v * k ≡ z = eq_of_mul-eq-mul_right u hu (a * v * k) z e in
    subst (λ n. a * v ≤ n) f (le-mul_of_pos_right (a * v) hk)

abs_cross : (z : ℤ) (d : Positive) → unsigned_abs (quotient z d).over * d.value ≡ unsigned_abs z * (quotient z d).under
abs_cross z d = sym (unsigned_abs-mul (quotient z d).over (pos d.value)) ∙ ap unsigned_abs (quotient_cross z d) ∙ unsigned_abs-mul z (pos (quotient z d).under)

abs_sum : (a b : ℤ) → unsigned_abs (a +ℤ b) ≤ unsigned_abs a + unsigned_abs b
abs_sum a b = omega (arith, ints)

le_self : (n : ℕ) → n ≤ n
le_self n = omega arith

turned : (u v g : ℕ) → v * (u * g) ≡ u * (v * g)
turned u v g = omega arith

-- a sum of small numerators over one denominator
pub sum_is_small : (z w : ℤ) (E : Positive) → unsigned_abs z < 2 ^ 126 → unsigned_abs w < 2 ^ 126 → E.value < size_limit
    → ¬ SumIsWide (quotient z E) (quotient w E)
unfolding SumIsWide
sum_is_small z w E hz hw hE = λ wide.
    let x = quotient z E in
    let y = quotient w E in
    let g = gcd x.under y.under in
    let i = gcd_is x.under y.under in
    let u = x.under / g in
    let v = y.under / g in
    let least : u * y.under ∣ E.value = (lcm_is x.under y.under y.lowest.positive).least E.value (under_divides z E) (under_divides w E) in
    let k = E.value / (u * y.under) in
    let whole : k * (u * y.under) ≡ E.value = div-mul_cancel (u * y.under) least in
    let hk : 0 < k = part_pos E.value (u * y.under) E.positive least in
    let ea : u * g ≡ x.under = div-mul_cancel g i.0 in
    let eb : v * g ≡ y.under = div-mul_cancel g i.1 in
    let same : v * x.under ≡ u * y.under = ap (λ n. v * n) (sym ea) ∙ turned u v g ∙ ap (λ n. u * n) eb in
    let whole_left : k * (v * x.under) ≡ E.value = ap (λ n. k * n) same ∙ whole in
    let left : unsigned_abs (sum_left x y) ≤ unsigned_abs z =
    subst (λ n. n ≤ unsigned_abs z) (sym (unsigned_abs-mul x.over (pos v)))
    (scaled_size (unsigned_abs x.over) (unsigned_abs z) x.under v k E.value (abs_cross z E) whole_left x.lowest.positive hk) in
    let right : unsigned_abs (sum_right x y) ≤ unsigned_abs w =
    subst (λ n. n ≤ unsigned_abs w) (sym (unsigned_abs-mul y.over (pos u)))
    (scaled_size (unsigned_abs y.over) (unsigned_abs w) y.under u k E.value (abs_cross w E) whole y.lowest.positive hk) in
    let both = abs_sum (sum_left x y) (sum_right x y) in
    let h = gcd (unsigned_abs (sum_over x y)) g in
    let part : y.under / h ≤ y.under = div-le_self y.under h in
    let under : sum_under x y ≤ u * y.under = mul-le-mul (le_self u) part in
    let all : u * y.under ≤ E.value = le_of_dvd E.positive least in
    wide ((omega (arith, left, hz), omega (arith, right, hw), omega (arith, left, right, hz, hw, both)), omega (arith, under, all, hE))

-- a product of small numbers
pub product_is_small : (z w : ℤ) (d e : Positive) → unsigned_abs z * unsigned_abs w < size_limit → d.value * e.value < size_limit
    → ¬ ProductIsWide (quotient z d) (quotient w e)
unfolding ProductIsWide
product_is_small z w d e ho hu = λ wide.
    let x = quotient z d in
    let y = quotient w e in
    let g = gcd (unsigned_abs x.over) y.under in
    let h = gcd (unsigned_abs y.over) x.under in
    let part : (unsigned_abs x.over / g) * (unsigned_abs y.over / h) ≤ unsigned_abs x.over * unsigned_abs y.over =
    mul-le-mul (div-le_self (unsigned_abs x.over) g) (div-le_self (unsigned_abs y.over) h) in
    let all : unsigned_abs x.over * unsigned_abs y.over ≤ unsigned_abs z * unsigned_abs w = mul-le-mul (over_size z d) (over_size w e) in
    let under_part : (x.under / h) * (y.under / g) ≤ x.under * y.under = mul-le-mul (div-le_self x.under h) (div-le_self y.under g) in
    let under_all : x.under * y.under ≤ d.value * e.value = mul-le-mul (under_size z d) (under_size w e) in
    let is = product_abs x y in
    wide (subst (λ n. n < size_limit) (sym is) (omega (arith, part, all, ho)), omega (arith, under_part, under_all, hu))
