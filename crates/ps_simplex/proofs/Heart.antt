-- Bland's argument: a column that enters at X doesn't leave at Y, where the columns that are basic in Y and not in X have less numbers and value 0.
use Rattle.std.proofs.Common.{◌≡◌, ◌≢◌, ◌⊎◌, inl, inr, ℕ, ◌<◌, ◌≤◌, Bool, false, [], ◌∷◌, refl, sym, ap, ◌∙◌, subst, arith}
use Rattle.std.proofs.lemmas.Bool.{cases_eq}
use Rattle.ps_meaning.proofs.Ring.{var, plus, by, minus, none}
use Rattle.ps_meaning.specs.Rational.{Rational, mul, neg, sub, zero_q}
use Rattle.ps_meaning.specs.Order.{IsNonneg}
use Rattle.ps_meaning.specs.Sums.{sum_to}
use Rattle.ps_meaning.proofs.Field.{ring_q}
use Rattle.ps_meaning.proofs.Order.{nonneg-add, nonneg-mul, zero_nonneg, above_nonneg, at_most_from_less, at_most_of, less_or_not, not_less}
use Rattle.ps_meaning.proofs.Sums.{sum_nonneg, unit_sum}
use Rattle.ps_simplex.specs.Table.{IsBasisTable, IsBasis, carried_by}
use Rattle.ps_simplex.specs.Rule.{table_of, Enters, HasLeastRatio}
use Rattle.ps_simplex.specs.Cycle.{gain, IsBasicIn}
use Rattle.ps_simplex.proofs.Reduced.{reduced_along}
use Rattle.ps_simplex.proofs.Signs.{above_or_not, zero-div}

-- a basic column carries its cost
pub gain_of_basic : (n w : ℕ) (A X : ℕ → ℕ → Rational) (cost : ℕ → Rational) (a : ℕ → ℕ) (c : ℕ) → IsBasisTable n w A a X → IsBasicIn n a c → gain n cost a X c ≡ zero_q
gain_of_basic n w A X cost a c stands here =
    let k = here.0 in
    let e : carried_by n cost a X (a k) ≡ cost (a k) = unit_sum n k (λ i. cost (a i)) (λ i. X i (a k)) here.1 (stands.here k here.1) (λ i l ne. stands.apart i k l here.1 (λ f. ne (sym f))) in
    subst (λ j. gain n cost a X j ≡ zero_q) here.2 (ap (λ z. sub z (cost (a k))) e ∙ ring_q (cost (a k) ∷ []) (plus (var 0) (minus (var 0))) none refl)

-- a column below q, a slack or a world with value 0
pub record IsLow (artificial : ℕ → Bool) (q c : ℕ) : Type 0 where
  pub column : 0 < c
  pub real : artificial c ≡ false
  pub below : c < q

module _ (n w : ℕ) (A X Y : ℕ → ℕ → Rational) (artificial : ℕ → Bool) (cost : ℕ → Rational) (a b : ℕ → ℕ) (q s p : ℕ)
    (table_x : IsBasisTable n w A a X) (table_y : IsBasisTable n w A b Y) (hb : IsBasis n w b)
    (at_x : Enters (table_of n w a artificial X) cost q) (at_y : Enters (table_of n w b artificial Y) cost s)
    (leaves : HasLeastRatio (table_of n w b artificial Y) s p) (same : b p ≡ q) (lower : s < q) (value : Y p 0 ≡ zero_q)
    (each : (i : ℕ) → i < n → i ≢ p → IsBasicIn n a (b i) ⊎ ((Y i 0 ≡ zero_q) × IsLow artificial q (b i))) where
  -- no slack or world below q carries more than its cost in X
  low : (c : ℕ) → c < w → IsLow artificial q c → IsNonneg (neg (gain n cost a X c))
  low c within h =
      elim (less_or_not (cost c) (carried_by n cost a X c)) [
        | inl l ↦ absurd (at_x.least c h.below (record { column = h.column; within = within; real = h.real; more = l }))
        | inr l ↦ subst IsNonneg (ring_q (cost c ∷ (carried_by n cost a X c ∷ [])) (plus (var 0) (minus (var 1))) (minus (plus (var 1) (minus (var 0)))) refl) (at_most_of (cost c) (carried_by n cost a X c) l)
      ]

  -- no row beside p with such a column and value 0 rises, for it would have left
  not_rising : (i : ℕ) → i < n → Y i 0 ≡ zero_q → b i < q → IsNonneg (neg (Y i s))
  not_rising i l e below =
      elim (above_or_not (Y i s)) [
        | inl h ↦
            let first = leaves.least i (record { within = l; above = h }) in
            let tie : b p ≤ b i = first.tie (zero-div (Y p 0) (Y p s) value ∙ sym (zero-div (Y i 0) (Y i s) e)) in
            absurd (omega (arith, tie, same, below))
        | inr h ↦ h
      ]

  own : IsNonneg (mul (gain n cost a X (b p)) (Y p s))
  own =
      nonneg-mul (gain n cost a X (b p)) (Y p s) (subst (λ c. IsNonneg (gain n cost a X c)) (sym same) (at_most_from_less (cost q) (carried_by n cost a X q) at_x.improves.more))
      (above_nonneg (Y p s) leaves.rising.above)

  part : (i : ℕ) → i < n → IsNonneg (mul (gain n cost a X (b i)) (Y i s))
  part i l =
      elim (cases_eq i p) [
        | inl e ↦ subst (λ k. IsNonneg (mul (gain n cost a X (b k)) (Y k s))) (sym e) own
        | inr ne ↦
            elim (each i l ne) [
              | inl here ↦ subst IsNonneg (sym (ap (λ k. mul k (Y i s)) (gain_of_basic n w A X cost a (b i) table_x here) ∙ ring_q (Y i s ∷ []) (by none (var 0)) none refl)) zero_nonneg
              | inr h ↦
                  subst IsNonneg (ring_q (gain n cost a X (b i) ∷ (Y i s ∷ [])) (by (minus (var 0)) (minus (var 1))) (by (var 0) (var 1)) refl)
                  (nonneg-mul (neg (gain n cost a X (b i))) (neg (Y i s)) (low (b i) (hb i l) h.1) (not_rising i l h.0 h.1.below))
            ]
      ]

  -- so column s doesn't improve in Y
  pub no_leaving : ⊥
  no_leaving =
      let S = sum_to n (λ i. mul (gain n cost a X (b i)) (Y i s)) in
      let sum : IsNonneg S = sum_nonneg n (λ i. mul (gain n cost a X (b i)) (Y i s)) part in
      let gain_x : IsNonneg (neg (gain n cost a X s)) = low s at_y.improves.within (record { column = at_y.improves.column; real = at_y.improves.real; below = lower }) in
      let along = reduced_along n w A X Y cost a b table_x hb table_y.belongs s at_y.improves.within in
      let down : IsNonneg (neg (gain n cost b Y s)) =
      subst IsNonneg (ring_q (gain n cost a X s ∷ (S ∷ [])) (plus (minus (var 0)) (var 1)) (minus (plus (var 0) (minus (var 1)))) refl ∙ ap neg (sym along)) (nonneg-add (neg (gain n cost a X s)) S gain_x sum) in
      not_less (cost s) (carried_by n cost b Y s)
      (subst IsNonneg (ring_q (cost s ∷ (carried_by n cost b Y s ∷ [])) (minus (plus (var 1) (minus (var 0)))) (plus (var 0) (minus (var 1))) refl) down)
      at_y.improves.more
