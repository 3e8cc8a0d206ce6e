-- A column that improves has an entry above 0, so it is no ray.
use Rattle.std.proofs.Common.{◌≡◌, ℕ, ◌<◌, [], ◌∷◌, sym, refl, ap, ◌∙◌, subst, ◌⊎◌, inl, inr}
use Rattle.ps_meaning.specs.Rational.{Rational, mul, neg, zero_q, one_q}
use Rattle.ps_meaning.specs.Order.{IsNonneg, AtMost, IsLess}
use Rattle.ps_meaning.specs.Sums.{sum_to}
use Rattle.ps_meaning.proofs.Ring.{var, plus, by, minus, none, unit}
use Rattle.ps_meaning.proofs.Field.{ring_q, one_not_zero}
use Rattle.ps_meaning.proofs.Order.{nonneg-add, nonneg-mul, not_less, zero_nonneg, both_signs}
use Rattle.ps_meaning.proofs.Sums.{sum_all_zero, sum_nonneg, sum_parts_zero, sum-neg}

-- with no cost below 0 and no entry above 0, nothing is carried
pub carried_not_above : (n : ℕ) (c x : ℕ → Rational) → ((i : ℕ) → i < n → IsNonneg (c i)) → ((i : ℕ) → i < n → IsNonneg (neg (x i))) → IsNonneg (neg (sum_to n (λ i. mul (c i) (x i))))
carried_not_above n c x hc hx =
    subst IsNonneg (sym (sum-neg n (λ i. mul (c i) (x i))))
    (sum_nonneg n (λ i. neg (mul (c i) (x i))) (λ i l.
    subst IsNonneg (ring_q (c i ∷ (x i ∷ [])) (by (var 0) (minus (var 1))) (minus (by (var 0) (var 1))) refl) (nonneg-mul (c i) (neg (x i)) (hc i l) (hx i l))))

-- where no cost is below 0 a column that carries more than its cost has an entry above 0
pub no_ray : (n : ℕ) (c x : ℕ → Rational) (cost : Rational) → ((i : ℕ) → i < n → IsNonneg (c i)) → ((i : ℕ) → i < n → IsNonneg (neg (x i))) → IsNonneg cost → IsLess cost (sum_to n (λ i. mul (c i) (x i))) → ⊥
no_ray n c x cost hc hx h l =
    not_less cost (sum_to n (λ i. mul (c i) (x i)))
    (nonneg-add cost (neg (sum_to n (λ i. mul (c i) (x i)))) h (carried_not_above n c x hc hx)) l

-- from row 0 alone, where costs are 0 or, on columns of entry 1 there, -1: a is that row at the basic columns, ae at the entering one
pub no_ray_upper : (n : ℕ) (a c x : ℕ → Rational) (ae ce : Rational)
    → ((i : ℕ) → i < n → IsNonneg (a i))
    → ((i : ℕ) → i < n → (c i ≡ zero_q) ⊎ ((c i ≡ neg one_q) × (a i ≡ one_q)))
    → IsNonneg ae
    → (ce ≡ zero_q) ⊎ ((ce ≡ neg one_q) × (ae ≡ one_q))
    → sum_to n (λ i. mul (x i) (a i)) ≡ ae
    → ((i : ℕ) → i < n → IsNonneg (neg (x i)))
    → IsLess ce (sum_to n (λ i. mul (c i) (x i)))
    → ⊥
no_ray_upper n a c x ae ce ha hc hae hce row hx less =
    let neg_row : sum_to n (λ i. neg (mul (x i) (a i))) ≡ neg ae = sym (sum-neg n (λ i. mul (x i) (a i))) ∙ ap neg row in
    let signs : (i : ℕ) → i < n → IsNonneg (neg (mul (x i) (a i))) = λ i l. subst IsNonneg (ring_q (x i ∷ (a i ∷ [])) (by (minus (var 0)) (var 1)) (minus (by (var 0) (var 1))) refl) (nonneg-mul (neg (x i)) (a i) (hx i l) (ha i l)) in
    let down : IsNonneg (neg ae) = subst IsNonneg neg_row (sum_nonneg n (λ i. neg (mul (x i) (a i))) signs) in
    let ae0 : ae ≡ zero_q = both_signs ae hae down in
    let each : (i : ℕ) → i < n → neg (mul (x i) (a i)) ≡ zero_q = sum_parts_zero n (λ i. neg (mul (x i) (a i))) signs (neg_row ∙ ap neg ae0 ∙ ring_q [] (minus none) none refl) in
    let carried : sum_to n (λ i. mul (c i) (x i)) ≡ zero_q = sum_all_zero n (λ i. mul (c i) (x i)) (λ i l.
    elim (hc i l) [
      | inl e ↦ ap (λ k. mul k (x i)) e ∙ ring_q (x i ∷ []) (by none (var 0)) none refl
      | inr e ↦
          (λ k. mul (e.0 k) (x i)) ∙ ring_q (x i ∷ []) (by (minus unit) (var 0)) (minus (by (var 0) unit)) refl ∙ (λ k. neg (mul (x i) (sym e.1 k))) ∙ each i l
    ]) in
    elim hce [
      | inl e ↦ not_less ce (sum_to n (λ i. mul (c i) (x i))) (subst (λ k. AtMost (sum_to n (λ i. mul (c i) (x i))) k) (sym e) (subst (λ k. AtMost k zero_q) (sym carried) (subst IsNonneg (ring_q [] none (plus none (minus none)) refl) zero_nonneg))) less
      | inr e ↦ one_not_zero (sym e.1 ∙ ae0)
    ]
