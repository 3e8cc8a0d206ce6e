-- Equality of rational numbers by cross products, and sums and products of quotients.
use Rattle.std.proofs.Common.{◌≡◌, ℕ, ◌+◌, ◌*◌, ◌/◌, ℤ, pos, ◌+ℤ◌, ◌*ℤ◌, neg_ℤ, unsigned_abs, int_div, arith, sym, refl, ap, ◌∙◌, subst}
use Rattle.std.specs.Int.{◌∣◌}
use Rattle.std.proofs.Math.Nat.{mul-pos, dvd-mul_left, dvd_antisymm, mul_comm, div-mul_cancel}
use Rattle.std.proofs.lemmas.Nat.Gcd.{IsGcd-swap}
use Rattle.std.proofs.lemmas.Int.{unsigned_abs-mul}
use Rattle.ps_meaning.specs.Gcd.{gcd}
use Rattle.ps_meaning.specs.Rational.{Rational, Positive, den, times, quotient, add, mul, neg, rational_path}
use Rattle.ps_meaning.specs.Coprime.{gcd_is, gauss}
use Rattle.ps_meaning.proofs.ExactQuotient.{quot_exact}
use Rattle.ps_meaning.proofs.IntRing.{*ℤ_cancel, neg-*ℤ, cross_reduced, parts, diff, diff-same, diffs, diff-pos, diff-neg, diff-add, diff-sub, diff-mul}

under_divides : (x y : Rational) → x.over *ℤ pos y.under ≡ y.over *ℤ pos x.under → x.under ∣ y.under
under_divides x y e =
    let a : unsigned_abs x.over * y.under ≡ unsigned_abs y.over * x.under = sym (unsigned_abs-mul x.over (pos y.under)) ∙ ap unsigned_abs e ∙ unsigned_abs-mul y.over (pos x.under) in
    let d : x.under ∣ y.under * unsigned_abs x.over = subst (λ n. x.under ∣ n) (sym a ∙ mul_comm (unsigned_abs x.over) y.under) (dvd-mul_left x.under (unsigned_abs y.over)) in
    gauss x.under (unsigned_abs x.over) y.under (IsGcd-swap (unsigned_abs x.over) x.under 1 x.lowest.coprime) d

pub same_from_cross : (x y : Rational) → x.over *ℤ pos y.under ≡ y.over *ℤ pos x.under → x ≡ y
same_from_cross x y e =
    let u : x.under ≡ y.under = dvd_antisymm (under_divides x y e) (under_divides y x (sym e)) in
    let v : x.over *ℤ pos y.under ≡ y.over *ℤ pos y.under = e ∙ ap (λ n. y.over *ℤ pos n) u in
    rational_path x y (*ℤ_cancel x.over y.over y.under y.lowest.positive v) u

-- what a quotient is
pub quotient_cross : (z : ℤ) (d : Positive) → (quotient z d).over *ℤ pos d.value ≡ z *ℤ pos (quotient z d).under
unfolding quotient
quotient_cross z d =
    let g = gcd (unsigned_abs z) d.value in
    let i = gcd_is (unsigned_abs z) d.value in
    let q = int_div z (pos g) in
    ap (λ k. q *ℤ pos k) (sym (div-mul_cancel g i.1)) ∙ cross_reduced q g (d.value / g) ∙ ap (λ w. w *ℤ pos (d.value / g)) (quot_exact z g i.0)

swap_ends : (a b c d : ℤ) → (a *ℤ b) *ℤ (c *ℤ d) ≡ (a *ℤ c) *ℤ (b *ℤ d)
swap_ends a b c d =
    let p = parts a in
    let q = parts b in
    let r = parts c in
    let s = parts d in
    rw (p.is, q.is, r.is, s.is) (simp diffs (diff-same _ _ _ _ (omega arith)))

cross_chain : (a b z w : ℤ) (u v d e : ℕ) → a *ℤ pos d ≡ z *ℤ pos u → b *ℤ pos e ≡ w *ℤ pos v → z *ℤ pos e ≡ w *ℤ pos d → (a *ℤ pos v) *ℤ pos (d * e) ≡ (b *ℤ pos u) *ℤ pos (d * e)
cross_chain a b z w u v d e ea eb h =
    swap_ends a (pos v) (pos d) (pos e)
    ∙ ap (λ k. k *ℤ pos (v * e)) ea
    ∙ ap (λ k. (z *ℤ pos u) *ℤ pos k) (mul_comm v e)
    ∙ swap_ends z (pos u) (pos e) (pos v)
    ∙ ap (λ k. k *ℤ pos (u * v)) h
    ∙ ap (λ k. (w *ℤ pos d) *ℤ pos k) (mul_comm u v)
    ∙ swap_ends w (pos d) (pos v) (pos u)
    ∙ ap (λ k. k *ℤ pos (d * u)) (sym eb)
    ∙ ap (λ k. (b *ℤ pos e) *ℤ pos k) (mul_comm d u)
    ∙ swap_ends b (pos e) (pos u) (pos d)
    ∙ ap (λ k. (b *ℤ pos u) *ℤ pos k) (mul_comm e d)

pub quotient-same : (z w : ℤ) (d e : Positive) → z *ℤ pos e.value ≡ w *ℤ pos d.value → quotient z d ≡ quotient w e
quotient-same z w d e h =
    let x = quotient z d in
    let y = quotient w e in
    same_from_cross x y
    (*ℤ_cancel (x.over *ℤ pos y.under) (y.over *ℤ pos x.under) (d.value * e.value) (mul-pos d.positive e.positive)
    (cross_chain x.over y.over z w x.under y.under d.value e.value (quotient_cross z d) (quotient_cross w e) h))

-- a rational number is the quotient of its parts
pub quotient_of_parts : (x : Rational) → x ≡ quotient x.over (den x)
quotient_of_parts x = sym (same_from_cross (quotient x.over (den x)) x (quotient_cross x.over (den x)))

add_cross : (a b z w : ℤ) (u v d e : ℕ) → a *ℤ pos d ≡ z *ℤ pos u → b *ℤ pos e ≡ w *ℤ pos v → (a *ℤ pos v +ℤ b *ℤ pos u) *ℤ pos (d * e) ≡ (z *ℤ pos e +ℤ w *ℤ pos d) *ℤ pos (u * v)
add_cross a b z w u v d e ea eb =
    let l : (a *ℤ pos v +ℤ b *ℤ pos u) *ℤ pos (d * e) ≡ (a *ℤ pos d) *ℤ pos (v * e) +ℤ (b *ℤ pos e) *ℤ pos (u * d) =
    let p = parts a in let q = parts b in rw (p.is, q.is) (simp diffs (diff-same _ _ _ _ (omega arith))) in
    let r : (z *ℤ pos u) *ℤ pos (v * e) +ℤ (w *ℤ pos v) *ℤ pos (u * d) ≡ (z *ℤ pos e +ℤ w *ℤ pos d) *ℤ pos (u * v) =
    let p = parts z in let q = parts w in rw (p.is, q.is) (simp diffs (diff-same _ _ _ _ (omega arith))) in
    l ∙ (λ i. ea i *ℤ pos (v * e) +ℤ eb i *ℤ pos (u * d)) ∙ r

pub times-value : (d e : Positive) → (times d e).value ≡ d.value * e.value
unfolding times
times-value d e = refl

pub add-quotient : (z w : ℤ) (d e : Positive) → add (quotient z d) (quotient w e) ≡ quotient (z *ℤ pos e.value +ℤ w *ℤ pos d.value) (times d e)
unfolding add times
add-quotient z w d e =
    let x = quotient z d in
    let y = quotient w e in
    quotient-same (x.over *ℤ pos y.under +ℤ y.over *ℤ pos x.under) (z *ℤ pos e.value +ℤ w *ℤ pos d.value) (times (den x) (den y)) (times d e)
    (add_cross x.over y.over z w x.under y.under d.value e.value (quotient_cross z d) (quotient_cross w e))

pub mul-quotient : (z w : ℤ) (d e : Positive) → mul (quotient z d) (quotient w e) ≡ quotient (z *ℤ w) (times d e)
unfolding mul times
mul-quotient z w d e =
    let x = quotient z d in
    let y = quotient w e in
    quotient-same (x.over *ℤ y.over) (z *ℤ w) (times (den x) (den y)) (times d e)
    (swap_ends x.over y.over (pos d.value) (pos e.value)
    ∙ (λ i. quotient_cross z d i *ℤ quotient_cross w e i)
    ∙ swap_ends z (pos x.under) w (pos y.under))

pub neg-quotient : (z : ℤ) (d : Positive) → neg (quotient z d) ≡ quotient (neg_ℤ z) d
unfolding neg
neg-quotient z d =
    let x = quotient z d in
    quotient-same (neg_ℤ x.over) (neg_ℤ z) (den x) d
    (neg-*ℤ x.over (pos d.value) ∙ ap neg_ℤ (quotient_cross z d) ∙ sym (neg-*ℤ z (pos x.under)))

-- by parts: (p - n) / d
pub record Fractional (x : Rational) : Type 0 where
  pub p : ℕ
  pub n : ℕ
  pub d : Positive
  pub is : x ≡ quotient (diff p n) d

pub fractional : (x : Rational) → Fractional x
fractional x =
    let z = parts x.over in
    record { p = z.p; n = z.n; d = den x; is = quotient_of_parts x ∙ ap (λ k. quotient k (den x)) z.is }

pub ruleset quotients = (add-quotient, mul-quotient, neg-quotient, times-value, diff-pos, diff-neg, diff-add, diff-sub, diff-mul)

-- an equation of quotients by arithmetic on natural numbers
pub by_cross : (p n q m : ℕ) (d e : Positive) → p * e.value + m * d.value ≡ q * d.value + n * e.value → quotient (diff p n) d ≡ quotient (diff q m) e
by_cross p n q m d e h = quotient-same (diff p n) (diff q m) d e (simp diffs (diff-same _ _ _ _ (omega arith)))

-- a number with known cross products
pub quotient_is : (x : Rational) (w : ℤ) (e : Positive) → x.over *ℤ pos e.value ≡ w *ℤ pos x.under → x ≡ quotient w e
quotient_is x w e h = quotient_of_parts x ∙ quotient-same x.over w (den x) e h
