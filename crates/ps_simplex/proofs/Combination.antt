-- What a whole multiple of the reduced cost tells: a world's combination by whole multiples of the multipliers.
use Rattle.std.proofs.Common.{◌≡◌, ℕ, suc, ◌<◌, ℤ, pos, ◌+ℤ◌, ◌*ℤ◌, ◌<ℤ◌, neg_ℤ, false, [], ◌∷◌, sym, refl, ap, ◌∙◌, subst, arith, inl, inr}
use Rattle.std.proofs.lemmas.Int.{ints}
use Rattle.ps_meaning.specs.Rational.{Rational, at_least_one, whole, add, mul, neg, sub}
use Rattle.ps_meaning.specs.Order.{IsNonneg, AtMost, IsLess}
use Rattle.ps_meaning.specs.Sums.{sum_to, int_sum_to}
use Rattle.ps_meaning.proofs.Ring.{var, plus, by, minus}
use Rattle.ps_meaning.proofs.Cross.{neg-quotient}
use Rattle.ps_meaning.proofs.Field.{ring_q}
use Rattle.ps_meaning.proofs.Order.{int_cases, less_or_not, not_less, at_most_of, nonneg-mul, nonneg_of, sign_of_quotient}
use Rattle.ps_meaning.proofs.Sums.{sum_same, sum_scale}
use Rattle.ps_meaning.proofs.Whole.{whole-add, whole-mul, whole_sum, unscaled}
use Rattle.ps_simplex.specs.Table.{IsBasisTable}
use Rattle.ps_simplex.proofs.Pricing.{carried_is_priced}
use Rattle.ps_simplex.specs.declared.phase.Phase.{Phase}
use Rattle.ps_simplex.specs.Rule.{SimplexTable, carried, Improves, IsResting}
use Rattle.ps_simplex.specs.Pivots.{System, simplex_table}

-- F is a whole positive multiple of what a column carries above its cost: it is at least 1 exactly where the column improves
pub improves_from : (big : ℕ) (z : ℤ) (carried cost : Rational) → whole z ≡ mul (whole (pos big)) (sub carried cost) → pos 0 <ℤ z → IsLess cost carried
improves_from big z carried cost e h =
    elim (less_or_not cost carried) [
      | inl l ↦ l
      | inr n ↦
          let down : IsNonneg (neg (whole z)) =
          subst IsNonneg (ring_q (whole (pos big) ∷ (cost ∷ (carried ∷ []))) (by (var 0) (plus (var 1) (minus (var 2)))) (minus (by (var 0) (plus (var 2) (minus (var 1))))) refl ∙ ap neg (sym e))
          (nonneg-mul (whole (pos big)) (sub cost carried) (nonneg_of (pos big) (at_least_one 1) (omega (arith, ints))) (at_most_of cost carried n)) in
          let s = sign_of_quotient (neg_ℤ z) (at_least_one 1) (subst IsNonneg (neg-quotient z (at_least_one 1)) down) in
          absurd (omega (arith, ints, s, h))
    ]

pub improves_back : (big : ℕ) (z : ℤ) (carried cost : Rational) → 0 < big → whole z ≡ mul (whole (pos big)) (sub carried cost) → IsLess cost carried → pos 0 <ℤ z
improves_back big z carried cost hb e l =
    elim (int_cases (pos 0) z) [
      | inl h ↦ h
      | inr h ↦
          let low : IsNonneg (neg (whole z)) = subst IsNonneg (sym (neg-quotient z (at_least_one 1))) (nonneg_of (neg_ℤ z) (at_least_one 1) (omega (arith, ints, h))) in
          let scaled : IsNonneg (mul (whole (pos big)) (sub cost carried)) =
          subst IsNonneg (ap neg e ∙ ring_q (whole (pos big) ∷ (cost ∷ (carried ∷ []))) (minus (by (var 0) (plus (var 2) (minus (var 1))))) (by (var 0) (plus (var 1) (minus (var 2)))) refl) low in
          absurd (not_less cost carried (unscaled big (sub cost carried) hb scaled) l)
    ]

-- a combination of a world's whole entries by whole multiples of the multipliers, less the same multiple of its cost
pub combination_is : (n big : ℕ) (P a : ℕ → ℤ) (c : ℤ) (multiplier : ℕ → Rational) (carried : Rational)
    → ((m : ℕ) → m < n → whole (P m) ≡ mul (whole (pos big)) (multiplier m))
    → carried ≡ sum_to n (λ m. mul (multiplier m) (whole (a m)))
    → whole (int_sum_to n (λ m. P m *ℤ a m) +ℤ (neg_ℤ (pos big) *ℤ c)) ≡ mul (whole (pos big)) (sub carried (whole c))
combination_is n big P a c multiplier carried scaled priced =
    let L : Rational = whole (pos big) in
    let rows : whole (int_sum_to n (λ m. P m *ℤ a m)) ≡ mul L carried =
    sym (whole_sum n (λ m. P m *ℤ a m))
    ∙ sum_same n (λ m. whole (P m *ℤ a m)) (λ m. mul L (mul (multiplier m) (whole (a m))))
    (λ m l. sym (whole-mul (P m) (a m)) ∙ ap (λ k. mul k (whole (a m))) (scaled m l) ∙ ring_q (L ∷ (multiplier m ∷ (whole (a m) ∷ []))) (by (by (var 0) (var 1)) (var 2)) (by (var 0) (by (var 1) (var 2))) refl)
    ∙ sym (sum_scale n L (λ m. mul (multiplier m) (whole (a m))))
    ∙ ap (mul L) (sym priced) in
    let minus_big : whole (neg_ℤ (pos big)) ≡ neg L = sym (neg-quotient (pos big) (at_least_one 1)) in
    sym (whole-add (int_sum_to n (λ m. P m *ℤ a m)) (neg_ℤ (pos big) *ℤ c))
    ∙ (λ z. add (rows z) ((sym (whole-mul (neg_ℤ (pos big)) c) ∙ ap (λ k. mul k (whole c)) minus_big) z))
    ∙ ring_q (L ∷ (carried ∷ (whole c ∷ []))) (plus (by (var 0) (var 1)) (by (minus (var 0)) (var 2))) (by (var 0) (plus (var 1) (minus (var 2)))) refl

-- at rest no slack and no world of the pool carries more than its cost: a slack's multiplier is at most 0
pub resting_most : (phase : Phase) (f : SimplexTable) (cost : ℕ → Rational) (j : ℕ) → IsResting phase f cost → 0 < j → j < f.width → f.artificial j ≡ false → AtMost (carried f cost j) (cost j)
resting_most phase f cost j rest h l real = at_most_of (cost j) (carried f cost j) (λ less. rest.none j (record { column = h; within = l; real = real; more = less }))

-- a world whose combination is at least 1 improves once its column is there, so the table is moving
pub priced_improves : (s : System) (w : ℕ) (basic : ℕ → ℕ) (X : ℕ → ℕ → Rational) (cost : ℕ → Rational) (j big : ℕ) (z : ℤ)
    → IsBasisTable s.rows w s.columns basic X → 0 < j → j < w → s.artificial j ≡ false
    → whole z ≡ mul (whole (pos big)) (sub (sum_to s.rows (λ m. mul (carried (simplex_table s w basic X) cost (suc m)) (s.columns m j))) (cost j))
    → pos 0 <ℤ z
    → Improves (simplex_table s w basic X) cost j
priced_improves s w basic X cost j big z stands h l real e above = record {
  column = h;
  within = l;
  real = real;
  more = improves_from big z (carried (simplex_table s w basic X) cost j) (cost j) (e ∙ ap (λ k. mul (whole (pos big)) (sub k (cost j))) (sym (carried_is_priced s.rows w s.columns X basic cost stands j l))) above;
}
