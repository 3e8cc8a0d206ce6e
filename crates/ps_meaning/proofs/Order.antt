-- The laws of order: with sums and products, by cross products, total, and from one side to the other.
use Rattle.std.proofs.Common.{[], ◌∷◌, ◌≡◌, ◌≢◌, ◌⊎◌, inl, inr, ℕ, zero, suc, ◌*◌, ◌<◌, ◌+◌, ℤ, pos, negsuc, ◌+ℤ◌, ◌*ℤ◌, ◌≤ℤ◌, ◌<ℤ◌, neg_ℤ, arith, sym, refl, ap, ◌∙◌, subst}
use Rattle.std.proofs.lemmas.Int.{ints}
use Rattle.std.proofs.lemmas.Bool.{cases_lt}
use Rattle.std.proofs.Math.Nat.{mul-pos}
use borrow.Author.Differences.{up, down}
use Rattle.ps_meaning.specs.Rational.{Rational, Positive, suc_positive, times, quotient, zero_q, one_q, add, mul, neg, sub, inverse_of, inverse, den}
use Rattle.ps_meaning.specs.Order.{IsNonneg, IsAbove, AtMost, IsLess}
use Rattle.ps_meaning.proofs.IntRing.{neg-*ℤ}
use Rattle.ps_meaning.proofs.Ring.{var, plus, by, minus, none}
use Rattle.ps_meaning.proofs.Cross.{quotient_cross, quotient_of_parts, add-quotient, same_from_cross}
use Rattle.ps_meaning.proofs.Field.{ring_q, over_is_zero, zero_over, one_over}

-- the sign of a product with a positive number
sign_out : (z : ℤ) (d : ℕ) → 0 < d → pos 0 ≤ℤ (z *ℤ pos d) → pos 0 ≤ℤ z
sign_out (pos n) d h k = omega (arith, ints)
sign_out (negsuc n) zero h k = absurd (omega arith)
sign_out (negsuc n) (suc d) h k = let p : 0 < suc n * suc d = mul-pos (omega arith) (omega arith) in absurd (omega (arith, ints))

sign_in : (z : ℤ) (d : ℕ) → pos 0 ≤ℤ z → pos 0 ≤ℤ (z *ℤ pos d)
sign_in (pos n) d h = omega (arith, ints)
sign_in (negsuc n) d h = absurd (omega (arith, ints))

pub nonneg_of : (z : ℤ) (d : Positive) → pos 0 ≤ℤ z → IsNonneg (quotient z d)
nonneg_of z d h =
    sign_out (quotient z d).over d.value d.positive
    (subst (λ w. pos 0 ≤ℤ w) (sym (quotient_cross z d)) (sign_in z (quotient z d).under h))

product_nonneg : (z w : ℤ) → pos 0 ≤ℤ z → pos 0 ≤ℤ w → pos 0 ≤ℤ (z *ℤ w)
product_nonneg (pos a) (pos b) h k = omega (arith, ints)
product_nonneg (pos a) (negsuc b) h k = absurd (omega (arith, ints))
product_nonneg (negsuc a) w h k = absurd (omega (arith, ints))

pub nonneg-add : (x y : Rational) → IsNonneg x → IsNonneg y → IsNonneg (add x y)
unfolding add
nonneg-add x y h k =
    let l = sign_in x.over y.under h in
    let r = sign_in y.over x.under k in
    nonneg_of (x.over *ℤ pos y.under +ℤ y.over *ℤ pos x.under) (times (den x) (den y)) (omega (arith, ints))

pub nonneg-mul : (x y : Rational) → IsNonneg x → IsNonneg y → IsNonneg (mul x y)
unfolding mul
nonneg-mul x y h k = nonneg_of (x.over *ℤ y.over) (times (den x) (den y)) (product_nonneg x.over y.over h k)

by_sign : (z : ℤ) → (pos 0 ≤ℤ z) ⊎ (pos 0 ≤ℤ neg_ℤ z)
by_sign (pos n) = inl (omega (arith, ints))
by_sign (negsuc n) = inr (omega (arith, ints))

pub nonneg_total : (x : Rational) → IsNonneg x ⊎ IsNonneg (neg x)
unfolding neg
nonneg_total x =
    elim (by_sign x.over) [
      | inl h ↦ inl h
      | inr h ↦ inr (nonneg_of (neg_ℤ x.over) (den x) h)
    ]

pub at_most_trans : (x y z : Rational) → AtMost x y → AtMost y z → AtMost x z
at_most_trans x y z h k =
    subst IsNonneg (ring_q (x ∷ (y ∷ (z ∷ []))) (plus (plus (var 1) (minus (var 0))) (plus (var 2) (minus (var 1)))) (plus (var 2) (minus (var 0))) refl)
    (nonneg-add (sub y x) (sub z y) h k)

pub at_most_mul : (x y z : Rational) → AtMost x y → IsNonneg z → AtMost (mul x z) (mul y z)
at_most_mul x y z h k =
    subst IsNonneg (ring_q (x ∷ (y ∷ (z ∷ []))) (by (plus (var 1) (minus (var 0))) (var 2)) (plus (by (var 1) (var 2)) (minus (by (var 0) (var 2)))) refl)
    (nonneg-mul (sub y x) z h k)

pub sign_of_quotient : (z : ℤ) (d : Positive) → IsNonneg (quotient z d) → pos 0 ≤ℤ z
sign_of_quotient z d h = sign_out z (quotient z d).under (quotient z d).lowest.positive (subst (λ w. pos 0 ≤ℤ w) (quotient_cross z d) (sign_in (quotient z d).over d.value h))

sub_is : (x y : Rational) → sub y x ≡ quotient (y.over *ℤ pos x.under +ℤ neg_ℤ x.over *ℤ pos y.under) (times (den y) (den x))
unfolding neg
sub_is x y = ap (λ k. add k (quotient (neg_ℤ x.over) (den x))) (quotient_of_parts y) ∙ add-quotient y.over (neg_ℤ x.over) (den y) (den x)

-- the order is that of the cross products
pub at_most_from_cross : (x y : Rational) → (x.over *ℤ pos y.under) ≤ℤ (y.over *ℤ pos x.under) → AtMost x y
at_most_from_cross x y h =
    let n = neg-*ℤ x.over (pos y.under) in
    subst IsNonneg (sym (sub_is x y)) (nonneg_of _ (times (den y) (den x)) (rw n (omega (arith, ints))))

pub cross_from_at_most : (x y : Rational) → AtMost x y → (x.over *ℤ pos y.under) ≤ℤ (y.over *ℤ pos x.under)
cross_from_at_most x y h =
    let n = neg-*ℤ x.over (pos y.under) in
    let k = sign_of_quotient _ (times (den y) (den x)) (subst IsNonneg (sub_is x y) h) in
    let m = rw n at k in
    omega (arith, ints)

pub not_less : (x y : Rational) → AtMost y x → IsLess x y → ⊥
not_less x y h l = let k = cross_from_at_most y x h in omega (arith, ints, k, l)

pub zero_nonneg : IsNonneg zero_q
zero_nonneg = let e = zero_over zero_q refl in omega (arith, ints, e)

pub both_signs : (x : Rational) → IsNonneg x → IsNonneg (neg x) → x ≡ zero_q
unfolding neg
both_signs x h k =
    let l = sign_of_quotient (neg_ℤ x.over) (den x) k in
    over_is_zero x (omega (arith, ints, h, l))

pub parts_zero : (x y : Rational) → IsNonneg x → IsNonneg y → add x y ≡ zero_q → (x ≡ zero_q) × (y ≡ zero_q)
parts_zero x y h k e =
    let ex : neg x ≡ y = ring_q (x ∷ (y ∷ [])) (minus (var 0)) (plus (var 1) (minus (plus (var 0) (var 1)))) refl ∙ ap (λ z. sub y z) e ∙ ring_q (y ∷ []) (plus (var 0) (minus none)) (var 0) refl in
    let ey : neg y ≡ x = ring_q (x ∷ (y ∷ [])) (minus (var 1)) (plus (var 0) (minus (plus (var 0) (var 1)))) refl ∙ ap (λ z. sub x z) e ∙ ring_q (x ∷ []) (plus (var 0) (minus none)) (var 0) refl in
    (both_signs x h (subst IsNonneg (sym ex) k), both_signs y k (subst IsNonneg (sym ey) h))

pub int_cases : (a b : ℤ) → (a <ℤ b) ⊎ (b ≤ℤ a)
int_cases a b = elim (cases_lt (up a + down b) (up b + down a)) [ inl l ↦ inl (omega (arith, ints)) | inr l ↦ inr (omega (arith, ints)) ]

not_strict : (a b : ℤ) → (a <ℤ b → ⊥) → a ≤ℤ b → b ≤ℤ a
not_strict a b h c = elim (int_cases a b) [ inl l ↦ absurd (h l) | inr l ↦ l ]

-- the order, the other way round
pub at_most_of : (x y : Rational) → (IsLess x y → ⊥) → AtMost y x
at_most_of x y h =
    elim (nonneg_total (sub x y)) [
      | inl k ↦ k
      | inr k ↦
          let back : AtMost x y = subst IsNonneg (ring_q (x ∷ (y ∷ [])) (minus (plus (var 0) (minus (var 1)))) (plus (var 1) (minus (var 0))) refl) k in
          let c = cross_from_at_most x y back in
          at_most_from_cross y x (not_strict _ _ h c)
    ]

pub above_from_cross : (z : ℤ) (big d : ℕ) → 0 < big → 0 < d → z *ℤ pos 1 ≡ pos big *ℤ pos d → pos 0 <ℤ z
above_from_cross (pos zero) big d h k e = let m = mul-pos h k in absurd (omega (arith, ints, m, e))
above_from_cross (pos (suc n)) big d h k e = omega (arith, ints)
above_from_cross (negsuc n) big d h k e = absurd (omega (arith, ints, e))

inverse_nonneg_of : (z : ℤ) (d : Positive) → pos 0 <ℤ z → IsNonneg (inverse_of z d)
unfolding inverse_of
inverse_nonneg_of (pos zero) d h = absurd (omega (arith, ints))
inverse_nonneg_of (pos (suc n)) d h = nonneg_of (pos d.value) (suc_positive n) (omega (arith, ints))
inverse_nonneg_of (negsuc n) d h = absurd (omega (arith, ints))

pub inverse_nonneg : (x : Rational) → IsAbove x → IsNonneg (inverse x)
unfolding inverse
inverse_nonneg x h = inverse_nonneg_of x.over (den x) h

pub less_or_not : (x y : Rational) → IsLess x y ⊎ (IsLess x y → ⊥)
less_or_not x y = elim (int_cases (x.over *ℤ pos y.under) (y.over *ℤ pos x.under)) [ inl l ↦ inl l | inr n ↦ inr (λ l. absurd (omega (arith, ints, l, n))) ]

pub at_most_from_less : (x y : Rational) → IsLess x y → AtMost x y
at_most_from_less x y l = at_most_from_cross x y (omega (arith, ints, l))

-- ---- the order itself
pub at_most_refl : (x : Rational) → AtMost x x
at_most_refl x = at_most_from_cross x x (omega (arith, ints))

pub at_most_antisym : (x y : Rational) → AtMost x y → AtMost y x → x ≡ y
at_most_antisym x y h k =
    let a = cross_from_at_most x y h in
    let b = cross_from_at_most y x k in
    same_from_cross x y (omega (arith, ints, a, b))

pub at_most_total : (x y : Rational) → AtMost x y ⊎ AtMost y x
at_most_total x y =
    elim (less_or_not y x) [
      | inl l ↦ inr (at_most_from_less y x l)
      | inr n ↦ inl (at_most_of y x n)
    ]

-- adding on both sides
pub at_most-add : (x y z w : Rational) → AtMost x y → AtMost z w → AtMost (add x z) (add y w)
at_most-add x y z w h k =
    subst IsNonneg (ring_q (x ∷ (y ∷ (z ∷ (w ∷ [])))) (plus (plus (var 1) (minus (var 0))) (plus (var 3) (minus (var 2)))) (plus (plus (var 1) (var 3)) (minus (plus (var 0) (var 2)))) refl)
    (nonneg-add (sub y x) (sub w z) h k)

-- less is not at most, the other way round
pub not_self_less : (x : Rational) → IsLess x x → ⊥
not_self_less x l = absurd (omega (arith, ints, l))

pub less_of : (x y : Rational) → (AtMost y x → ⊥) → IsLess x y
less_of x y h =
    elim (less_or_not x y) [
      | inl l ↦ l
      | inr n ↦ absurd (h (at_most_of x y n))
    ]

pub less_at_most : (x y z : Rational) → IsLess x y → AtMost y z → IsLess x z
less_at_most x y z l h = less_of x z (λ k. not_less x y (at_most_trans y z x h k) l)

-- above 0 is at least 0 and not 0
pub above_nonneg : (x : Rational) → IsAbove x → IsNonneg x
above_nonneg x h = omega (arith, ints, h)

pub above_not_zero : (x : Rational) → IsAbove x → x ≢ zero_q
above_not_zero x h e = let k = zero_over x e in absurd (omega (arith, ints, h, k))

pub one_above : IsAbove one_q
one_above = let e = one_over in omega (arith, ints, e)
