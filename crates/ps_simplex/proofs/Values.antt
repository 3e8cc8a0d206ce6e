-- What a lawful pivot does to the values of the basic columns.
use Rattle.std.proofs.Common.{◌≡◌, ◌≢◌, ◌⊎◌, inl, inr, ℕ, ◌<◌, Bool, true, false, [], ◌∷◌, refl, sym, ap, ◌∙◌, subst}
use Rattle.std.proofs.lemmas.Bool.{cases_eq, true≢false}
use Rattle.ps_meaning.proofs.Ring.{var, plus, by, minus, none}
use Rattle.ps_meaning.specs.Rational.{Rational, mul, zero_q, sub, div}
use Rattle.ps_meaning.specs.Order.{IsNonneg, AtMost}
use Rattle.ps_meaning.proofs.Field.{div-mul, ring_q}
use Rattle.ps_meaning.proofs.Order.{above_not_zero, zero_nonneg}
use Rattle.ps_simplex.specs.Table.{Pivoted, Based}
use Rattle.ps_simplex.specs.declared.phase.Phase.{Phase}
use Rattle.ps_simplex.specs.declared.phase.Phase.TheVariants.{One, Lower, Upper}
use Rattle.ps_simplex.specs.Rule.{SimplexTable, table_of, IsFeasible, IsArtificialRow, HasLeastRatio, LeavesInPhaseTwo, Leaves}
use Rattle.ps_simplex.specs.Cycle.{IsStart, HasZeroArtificials}
use Rattle.ps_simplex.proofs.Signs.{zero_or_not, nonneg-div, zero-div, value_kept}

-- how a row leaves: by the least ratio, or with a basic artificial of value 0
abbrev pub HowLeaves : SimplexTable → ℕ → ℕ → Type 0
HowLeaves f q p = HasLeastRatio f q p ⊎ (IsArtificialRow f q p × (f.entry p 0 ≡ zero_q))

module _ (n w : ℕ) (artificial : ℕ → Bool) (old new : ℕ → ℕ) (X Y : ℕ → ℕ → Rational) (q p : ℕ) (some : 0 < w) (column : q < w) (based : Based n p q old new) (pivoted : Pivoted n w p q X Y) where
  abbrev F : SimplexTable
  F = table_of n w old artificial X

  abbrev G : SimplexTable
  G = table_of n w new artificial Y

  abbrev How : Type 0
  How = HowLeaves F q p

  in_phase_two : IsFeasible F → LeavesInPhaseTwo F q p → How
  in_phase_two feasible leaves = elim leaves [ inl r ↦ inr (r.row, feasible.zero p r.row.within r.row.artificial) | inr r ↦ inl r.1 ]

  pub how : (phase : Phase) → HasZeroArtificials phase F → Leaves phase F q p → HowLeaves (table_of n w old artificial X) q p
  how One zeros leaves = inl leaves
  how Lower zeros leaves = in_phase_two zeros leaves
  how Upper zeros leaves = in_phase_two zeros leaves

  pub row_within : HowLeaves (table_of n w old artificial X) q p → p < n
  row_within h = elim h [ inl least ↦ least.rising.within | inr row ↦ row.0.within ]

  pub entry_filled : HowLeaves (table_of n w old artificial X) q p → X p q ≢ zero_q
  entry_filled h = elim h [ inl least ↦ above_not_zero (X p q) least.rising.above | inr row ↦ row.0.entry ]

  -- the value of the column that enters
  pub own_value : ((i : ℕ) → i < n → IsNonneg (X i 0)) → HowLeaves (table_of n w old artificial X) q p → IsNonneg (Y p 0)
  own_value values h =
      elim h [
        | inl least ↦ subst IsNonneg (sym (pivoted.row 0 some)) (nonneg-div (X p 0) (X p q) (values p least.rising.within) least.rising.above)
        | inr row ↦ subst IsNonneg (sym (pivoted.row 0 some ∙ zero-div (X p 0) (X p q) row.1)) zero_nonneg
      ]

  -- where it is 0, so was the value of the one that left
  pub left_value : HowLeaves (table_of n w old artificial X) q p → Y p 0 ≡ zero_q → X p 0 ≡ zero_q
  left_value h e =
      sym (div-mul (X p 0) (X p q) (entry_filled h)) ∙ ap (λ k. mul k (X p q)) (sym (pivoted.row 0 some) ∙ e) ∙ ring_q (X p q ∷ []) (by none (var 0)) none refl

  -- and then no value changes
  pub unchanged : X p 0 ≡ zero_q → (i : ℕ) → i < n → Y i 0 ≡ X i 0
  unchanged e i l =
      let blank : Y p 0 ≡ zero_q = pivoted.row 0 some ∙ zero-div (X p 0) (X p q) e in
      elim (cases_eq i p) [
        | inl k ↦ ap (λ z. Y z 0) k ∙ blank ∙ sym e ∙ ap (λ z. X z 0) (sym k)
        | inr ne ↦ pivoted.others i 0 l some ne ∙ ap (λ k. sub (X i 0) (mul (X i q) k)) blank ∙ ring_q (X i 0 ∷ (X i q ∷ [])) (plus (var 0) (minus (by (var 1) none))) (var 0) refl
      ]

  -- where row i has 0 in the entering column, its value stays
  level : (i : ℕ) → i < n → i ≢ p → X i q ≡ zero_q → Y i 0 ≡ X i 0
  level i l ne e = pivoted.others i 0 l some ne ∙ ap (λ k. sub (X i 0) (mul k (Y p 0))) e ∙ ring_q (X i 0 ∷ (Y p 0 ∷ [])) (plus (var 0) (minus (by none (var 1)))) (var 0) refl

  by_ratio : ((i : ℕ) → i < n → IsNonneg (X i 0)) → HasLeastRatio F q p → (i : ℕ) → i < n → IsNonneg (Y i 0)
  by_ratio values least i l =
      let own : IsNonneg (Y p 0) = own_value values (inl least) in
      elim (cases_eq i p) [
        | inl e ↦ subst (λ k. IsNonneg (Y k 0)) (sym e) own
        | inr ne ↦
            subst IsNonneg (sym (pivoted.others i 0 l some ne))
            (value_kept (X i 0) (X i q) (Y p 0) (values i l) own
            (λ a. subst (λ k. AtMost k (div (X i 0) (X i q))) (sym (pivoted.row 0 some)) (least.least i (record { within = l; above = a })).at_most))
      ]

  -- no value falls below 0
  pub values_kept : ((i : ℕ) → i < n → IsNonneg (X i 0)) → HowLeaves (table_of n w old artificial X) q p → (i : ℕ) → i < n → IsNonneg (Y i 0)
  values_kept values h i l =
      elim h [
        | inl least ↦ by_ratio values least i l
        | inr row ↦ subst IsNonneg (sym (unchanged row.1 i l)) (values i l)
      ]

  -- in phase two the basic artificials stay at 0
  zero_kept : IsFeasible F → artificial q ≡ false → LeavesInPhaseTwo F q p → (i : ℕ) → i < n → artificial (new i) ≡ true → Y i 0 ≡ zero_q
  zero_kept feasible real leaves i l a =
      elim (cases_eq i p) [
        | inl e ↦ absurd (true≢false (sym a ∙ ap artificial (ap new e ∙ based.here) ∙ real))
        | inr ne ↦
            let b : artificial (old i) ≡ true = ap artificial (sym (based.others i l ne)) ∙ a in
            let was : X i 0 ≡ zero_q = feasible.zero i l b in
            elim leaves [
              | inl row ↦ unchanged (feasible.zero p row.row.within row.row.artificial) i l ∙ was
              | inr least ↦
                  elim (zero_or_not (X i q)) [
                    | inl e ↦ level i l ne e ∙ was
                    | inr filled ↦ absurd (least.0 i (record { within = l; artificial = b; entry = filled }))
                  ]
            ]
      ]

  zeros_kept : (phase : Phase) → HasZeroArtificials phase F → artificial q ≡ false → Leaves phase F q p → HasZeroArtificials phase G
  zeros_kept One zeros real leaves = tt
  zeros_kept Lower zeros real leaves = record { zero = zero_kept zeros real leaves }
  zeros_kept Upper zeros real leaves = record { zero = zero_kept zeros real leaves }

  -- after the pivot the phase might start just so
  pub start_kept : (phase : Phase) → IsStart phase F → artificial q ≡ false → Leaves phase F q p → IsStart phase G
  start_kept phase start real leaves = record {
    values = values_kept start.values (how phase start.artificials leaves);
    artificials = zeros_kept phase start.artificials real leaves;
  }
