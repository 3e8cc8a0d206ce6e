-- The rule names one pivot at a basis.
use Rattle.std.proofs.Common.{◌≡◌, ℕ, ◌<◌, sym, refl, ap, ◌∙◌, subst, arith, inl, inr}
use Rattle.std.proofs.lemmas.Bool.{cases_eq, cases_lt}
use Rattle.ps_meaning.specs.Rational.{Rational}
use Rattle.ps_meaning.proofs.Field.{one_not_zero}
use Rattle.ps_meaning.proofs.Order.{at_most_antisym}
use Rattle.ps_simplex.specs.Table.{IsBasisTable, IsBasis}
use Rattle.ps_simplex.proofs.OneTable as tables
use Rattle.ps_simplex.specs.declared.phase.Phase.{Phase}
use Rattle.ps_simplex.specs.declared.phase.Phase.TheVariants.{One, Lower, Upper}
use Rattle.ps_simplex.specs.Rule.{Improves, IsArtificialRow, ratio, HasLeastRatio, LeavesInPhaseTwo, Leaves}
use Rattle.ps_simplex.specs.Pivots.{System, simplex_table, LinearProgram, IsLawfulAt}
use Rattle.ps_simplex.specs.RuleLaws.{priced_columns, AreAlike}
use Rattle.ps_simplex.proofs.Alike as alike

-- there is one least number with a property
same_least : (P : ℕ → Type 0) (a b : ℕ) → P a → P b → ((i : ℕ) → i < a → P i → ⊥) → ((i : ℕ) → i < b → P i → ⊥) → a ≡ b
same_least P a b ha hb la lb =
    elim (cases_eq a b) [
      | inl e ↦ e
      | inr ne ↦
          elim (cases_lt a b) [
            | inl l ↦ absurd (lb a l ha)
            | inr l ↦ absurd (la b (omega arith) hb)
          ]
    ]

-- no column is basic in two rows
pub distinct : (n w : ℕ) (A X : ℕ → ℕ → Rational) (basic : ℕ → ℕ) → IsBasisTable n w A basic X → (i k : ℕ) → i < n → k < n → basic i ≡ basic k → i ≡ k
distinct n w A X basic stands i k hi hk e =
    elim (cases_eq k i) [
      | inl f ↦ sym f
      | inr ne ↦ absurd (one_not_zero (sym (stands.here i hi) ∙ ap (X i) e ∙ stands.apart i k hi hk ne))
    ]

module _ (s : System) (cost : ℕ → Rational) (w : ℕ) (basic : ℕ → ℕ) (X : ℕ → ℕ → Rational) (stands : IsBasisTable s.rows w s.columns basic X) where
  one_ratio : (q p r : ℕ) → HasLeastRatio (simplex_table s w basic X) q p → HasLeastRatio (simplex_table s w basic X) q r → p ≡ r
  one_ratio q p r h k =
      let a = h.least r k.rising in
      let b = k.least p h.rising in
      let e = at_most_antisym (ratio (simplex_table s w basic X) q p) (ratio (simplex_table s w basic X) q r) a.at_most b.at_most in
      let l = a.tie e in
      let g = b.tie (sym e) in
      distinct s.rows w s.columns X basic stands p r h.rising.within k.rising.within (omega arith)

  one_in_phase_two : (q p r : ℕ) → LeavesInPhaseTwo (simplex_table s w basic X) q p → LeavesInPhaseTwo (simplex_table s w basic X) q r → p ≡ r
  one_in_phase_two q p r h k =
      elim h [
        | inl a ↦
            elim k [
              | inl b ↦ same_least (IsArtificialRow (simplex_table s w basic X) q) p r a.row b.row a.least b.least
              | inr b ↦ absurd (b.0 p a.row)
            ]
        | inr a ↦
            elim k [
              | inl b ↦ absurd (a.0 r b.row)
              | inr b ↦ one_ratio q p r a.1 b.1
            ]
      ]

  one_leaves : (phase : Phase) (q p r : ℕ) → Leaves phase (simplex_table s w basic X) q p → Leaves phase (simplex_table s w basic X) q r → p ≡ r
  one_leaves One q p r h k = one_ratio q p r h k
  one_leaves Lower q p r h k = one_in_phase_two q p r h k
  one_leaves Upper q p r h k = one_in_phase_two q p r h k

pub one_pivot : (l : LinearProgram) (basic : ℕ → ℕ) (X : ℕ → ℕ → Rational) (q p k r : ℕ)
    → l.system.rows < l.width → IsBasis l.system.rows l.width basic → IsBasisTable l.system.rows l.width l.system.columns basic X
    → IsLawfulAt l basic q p → IsLawfulAt l basic k r → (q ≡ k) × (p ≡ r)
one_pivot l basic X q p k r hn hb stands h g =
    let phase = l.phase in
    let s = l.system in
    let cost = l.cost in
    let w = l.width in
    let like : (T : ℕ → ℕ → Rational) → ((i j : ℕ) → i < s.rows → j < w → X i j ≡ T i j) → AreAlike s.rows w basic (priced_columns s.artificial cost T) (priced_columns s.artificial cost X) =
    λ T e. record { some = omega arith; basis = hb; artificials = record { same = λ j l. refl }; costs = record { same = λ j l. refl }; entries = record { same = λ i j a b. sym (e i j a b) } } in
    let ah = like h.table (tables.one_table s.rows w s.columns X h.table basic hn hb stands h.belongs) in
    let ag = like g.table (tables.one_table s.rows w s.columns X g.table basic hn hb stands g.belongs) in
    let eh = alike.enters s.rows w basic s.artificial s.artificial cost cost h.table X ah q h.enters in
    let eg = alike.enters s.rows w basic s.artificial s.artificial cost cost g.table X ag k g.enters in
    let e : q ≡ k = same_least (Improves (simplex_table s w basic X) cost) q k eh.improves eg.improves eh.least eg.least in
    let lh = alike.leaves s.rows w basic s.artificial s.artificial cost cost h.table X ah phase q p eh.improves.within h.leaves in
    let lg = alike.leaves s.rows w basic s.artificial s.artificial cost cost g.table X ag phase k r eg.improves.within g.leaves in
    (e, one_leaves s cost w basic X stands phase q p r lh (subst (λ c. Leaves phase (simplex_table s w basic X) c r) (sym e) lg))
