-- Signs of rational numbers, by cases.
use Rattle.std.proofs.Common.{◌≡◌, ◌≢◌, ◌⊎◌, inl, inr, ℤ, pos, negsuc, zero, suc, ◌<ℤ◌, ◌≤ℤ◌, neg_ℤ, [], ◌∷◌, sym, refl, ap, ◌∙◌, subst, arith}
use Rattle.std.proofs.lemmas.Int.{ints}
use Rattle.ps_meaning.proofs.Ring.{var, plus, by, minus, none}
use Rattle.ps_meaning.specs.Rational.{Rational, neg, den, mul, zero_q, sub, div, inverse}
use Rattle.ps_meaning.specs.Order.{IsNonneg, AtMost, IsLess, IsAbove}
use Rattle.ps_meaning.proofs.Field.{div-mul, ring_q, over_is_zero, zero_over}
use Rattle.ps_meaning.proofs.Order.{at_most_mul, nonneg-add, nonneg-mul, nonneg_of, zero_nonneg, above_nonneg, above_not_zero, inverse_nonneg, not_less}

above_or_not_z : (z : ℤ) → (pos 0 <ℤ z) ⊎ (pos 0 ≤ℤ neg_ℤ z)
above_or_not_z (pos zero) = inr (omega (arith, ints))
above_or_not_z (pos (suc n)) = inl (omega (arith, ints))
above_or_not_z (negsuc n) = inr (omega (arith, ints))

pub above_or_not : (x : Rational) → IsAbove x ⊎ IsNonneg (neg x)
unfolding neg
above_or_not x = elim (above_or_not_z x.over) [ inl h ↦ inl h | inr h ↦ inr (nonneg_of (neg_ℤ x.over) (den x) h) ]

zero_or_not_z : (z : ℤ) → (z ≡ pos 0) ⊎ (z ≡ pos 0 → ⊥)
zero_or_not_z (pos zero) = inl refl
zero_or_not_z (pos (suc n)) = inr (λ e. absurd (omega (arith, ints)))
zero_or_not_z (negsuc n) = inr (λ e. absurd (omega (arith, ints)))

pub zero_or_not : (x : Rational) → (x ≡ zero_q) ⊎ (x ≡ zero_q → ⊥)
zero_or_not x = elim (zero_or_not_z x.over) [ inl e ↦ inl (over_is_zero x e) | inr ne ↦ inr (λ e. ne (zero_over x e)) ]

pub nonneg-div : (x y : Rational) → IsNonneg x → IsAbove y → IsNonneg (div x y)
nonneg-div x y h k = nonneg-mul x (inverse y) h (inverse_nonneg y k)

-- 0 over a number
pub zero-div : (x y : Rational) → x ≡ zero_q → div x y ≡ zero_q
zero-div x y e = ap (λ k. div k y) e ∙ ring_q (inverse y ∷ []) (by none (var 0)) none refl

-- a product with a number other than 0 is 0 only where the other factor is
pub other_factor : (x y : Rational) → x ≢ zero_q → mul x y ≡ zero_q → y ≡ zero_q
other_factor x y n e =
    sym (div-mul y x n) ∙ ring_q (y ∷ (inverse x ∷ (x ∷ []))) (by (by (var 0) (var 1)) (var 2)) (by (by (var 2) (var 0)) (var 1)) refl
    ∙ ap (λ k. mul k (inverse x)) e ∙ ring_q (inverse x ∷ []) (by none (var 0)) none refl

-- a number that is more than another isn't it
pub difference_not_zero : (x y : Rational) → IsLess y x → sub x y ≢ zero_q
difference_not_zero x y l e =
    not_less y x (subst IsNonneg (ring_q (x ∷ (y ∷ [])) (minus (plus (var 0) (minus (var 1)))) (plus (var 1) (minus (var 0))) refl) (subst (λ k. IsNonneg (neg k)) (sym e) (subst IsNonneg (ring_q [] none (minus none) refl) zero_nonneg))) l

-- a value after a pivot by the least ratio
pub value_kept : (v x r : Rational) → IsNonneg v → IsNonneg r → (IsAbove x → AtMost r (div v x)) → IsNonneg (sub v (mul x r))
value_kept v x r hv hr h =
    elim (above_or_not x) [
      | inl a ↦
          subst IsNonneg
          (ap (λ k. sub k (mul r x)) (div-mul v x (above_not_zero x a)) ∙ ring_q (v ∷ (x ∷ (r ∷ []))) (plus (var 0) (minus (by (var 2) (var 1)))) (plus (var 0) (minus (by (var 1) (var 2)))) refl)
          (at_most_mul r (div v x) x (h a) (above_nonneg x a))
      | inr n ↦
          subst IsNonneg (ring_q (v ∷ (x ∷ (r ∷ []))) (plus (var 0) (by (minus (var 1)) (var 2))) (plus (var 0) (minus (by (var 1) (var 2)))) refl)
          (nonneg-add v (mul (neg x) r) hv (nonneg-mul (neg x) r n hr))
    ]
