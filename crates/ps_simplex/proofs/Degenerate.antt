-- A walk from a basis to one of the same columns changes no value.
use Rattle.std.proofs.Common.{◌≡◌, ◌≢◌, inl, inr, ℕ, zero, suc, ◌<◌, ◌≤◌, [], ◌∷◌, refl, sym, ap, ◌∙◌, subst, arith}
use Rattle.std.proofs.lemmas.Bool.{cases_eq}
use Rattle.ps_meaning.proofs.Ring.{var, plus, by, minus, none}
use Rattle.ps_meaning.specs.Rational.{Rational, mul, sub, zero_q}
use Rattle.ps_meaning.specs.Order.{IsNonneg, AtMost}
use Rattle.ps_meaning.specs.Sums.{sum_to}
use Rattle.ps_meaning.proofs.Field.{ring_q}
use Rattle.ps_meaning.proofs.Order.{nonneg-mul, zero_nonneg, at_most_from_less, at_most_refl, at_most_trans, at_most_antisym}
use Rattle.ps_meaning.proofs.Sums.{sum_nonneg, sum_parts_zero, sum_all_zero}
use Rattle.ps_simplex.specs.Table.{carried_by}
use Rattle.ps_simplex.specs.declared.phase.Phase.{Phase}
use Rattle.ps_simplex.specs.Pivots.{System, simplex_table}
use Rattle.ps_simplex.specs.Cycle.{gain, HaveSameColumns}
use Rattle.ps_simplex.proofs.Reduced.{reduced_along}
use Rattle.ps_simplex.proofs.Signs.{difference_not_zero, other_factor}
use Rattle.ps_simplex.proofs.Values as values
use Rattle.ps_simplex.proofs.Heart.{gain_of_basic}
use Rattle.ps_simplex.proofs.Walks.{Stage, IsSound, IsStep, IsWalk}

-- the objective at a stage
abbrev pub objective : System → (ℕ → Rational) → Stage → Rational
objective s cost x = gain s.rows cost x.basic x.table 0

-- ---- one pivot
module _ (phase : Phase) (s : System) (cost : ℕ → Rational) (w : ℕ) (x y : Stage) (q p : ℕ) (some : 0 < w) (before : IsSound phase s w x) (after : IsSound phase s w y) (step : IsStep phase s cost w x q p y) where
  pub leaves_by : values.HowLeaves (simplex_table s w x.basic x.table) q p
  leaves_by = values.how s.rows w s.artificial x.basic y.basic x.table y.table q p some step.enters.improves.within step.based step.pivoted phase before.start.artificials step.leaves

  -- what the objective loses, row by row
  abbrev part : ℕ → Rational
  part i = mul (gain s.rows cost x.basic x.table (y.basic i)) (y.table i 0)

  part_nonneg : (i : ℕ) → i < s.rows → IsNonneg (part i)
  part_nonneg i l =
      elim (cases_eq i p) [
        | inl e ↦
            subst (λ k. IsNonneg (part k)) (sym e)
            (nonneg-mul (gain s.rows cost x.basic x.table (y.basic p)) (y.table p 0)
            (subst (λ c. IsNonneg (gain s.rows cost x.basic x.table c)) (sym step.based.here) (at_most_from_less (cost q) (carried_by s.rows cost x.basic x.table q) step.enters.improves.more))
            (values.own_value s.rows w s.artificial x.basic y.basic x.table y.table q p some step.enters.improves.within step.based step.pivoted before.start.values leaves_by))
        | inr ne ↦
            subst IsNonneg
            (sym (ap (λ k. mul k (y.table i 0)) (gain_of_basic s.rows w s.columns x.table cost x.basic (y.basic i) before.stands (i, l, sym (step.based.others i l ne))) ∙ ring_q (y.table i 0 ∷ []) (by none (var 0)) none refl))
            zero_nonneg
      ]

  loss : objective s cost y ≡ sub (objective s cost x) (sum_to s.rows part)
  loss = reduced_along s.rows w s.columns x.table y.table cost x.basic y.basic before.stands after.basis after.stands.belongs 0 some

  -- the objective never rises
  pub falls : AtMost (objective s cost y) (objective s cost x)
  falls =
      subst IsNonneg (ring_q (objective s cost x ∷ (sum_to s.rows part ∷ [])) (var 1) (plus (var 0) (minus (plus (var 0) (minus (var 1))))) refl ∙ ap (sub (objective s cost x)) (sym loss))
      (sum_nonneg s.rows part part_nonneg)

  -- where it stays, the value of the column that leaves is 0
  pub stays : objective s cost y ≡ objective s cost x → x.table p 0 ≡ zero_q
  stays e =
      let row = values.row_within s.rows w s.artificial x.basic y.basic x.table y.table q p some step.enters.improves.within step.based step.pivoted leaves_by in
      let none_lost : sum_to s.rows part ≡ zero_q =
      ring_q (objective s cost x ∷ (sum_to s.rows part ∷ [])) (var 1) (plus (var 0) (minus (plus (var 0) (minus (var 1))))) refl
      ∙ ap (sub (objective s cost x)) (sym loss ∙ e)
      ∙ ring_q (objective s cost x ∷ []) (plus (var 0) (minus (var 0))) none refl in
      let own : part p ≡ zero_q = sum_parts_zero s.rows part part_nonneg none_lost p row in
      let full : gain s.rows cost x.basic x.table (y.basic p) ≢ zero_q = subst (λ c. gain s.rows cost x.basic x.table c ≢ zero_q) (sym step.based.here) (difference_not_zero (carried_by s.rows cost x.basic x.table q) (cost q) step.enters.improves.more) in
      values.left_value s.rows w s.artificial x.basic y.basic x.table y.table q p some step.enters.improves.within step.based step.pivoted leaves_by
      (other_factor (gain s.rows cost x.basic x.table (y.basic p)) (y.table p 0) full own)

-- ---- a walk
module _ (phase : Phase) (s : System) (cost : ℕ → Rational) (w steps : ℕ) (stage : ℕ → Stage) (enter leave : ℕ → ℕ) (some : 0 < w) (walk : IsWalk phase s cost w steps stage enter leave) where
  abbrev value : ℕ → Rational
  value k = objective s cost (stage k)

  one_falls : (k : ℕ) → k < steps → AtMost (value (suc k)) (value k)
  one_falls k l = falls phase s cost w (stage k) (stage (suc k)) (enter k) (leave k) some (walk.sound k (omega arith)) (walk.sound (suc k) l) (walk.step k l)

  all_fall : (k m : ℕ) → k ≤ m → m ≤ steps → AtMost (value m) (value k)
  all_fall k zero h l = subst (λ z. AtMost (value zero) (value z)) (omega arith) (at_most_refl (value zero))
  all_fall k (suc m) h l =
      elim (cases_eq k (suc m)) [
        | inl e ↦ subst (λ z. AtMost (value (suc m)) (value z)) (sym e) (at_most_refl (value (suc m)))
        | inr ne ↦ at_most_trans (value (suc m)) (value m) (value k) (one_falls m (omega arith)) (all_fall k m (omega arith) (omega arith))
      ]

  -- from a basis to one of the same columns the objective stays
  same_ends : HaveSameColumns s.rows (stage 0).basic (stage steps).basic → value steps ≡ value 0
  same_ends same =
      let start = walk.sound 0 (omega arith) in
      let end = walk.sound steps (omega arith) in
      reduced_along s.rows w s.columns (stage 0).table (stage steps).table cost (stage 0).basic (stage steps).basic start.stands end.basis end.stands.belongs 0 some
      ∙ ap (sub (value 0))
      (sum_all_zero s.rows (λ i. mul (gain s.rows cost (stage 0).basic (stage 0).table ((stage steps).basic i)) ((stage steps).table i 0))
      (λ i l. ap (λ k. mul k ((stage steps).table i 0)) (gain_of_basic s.rows w s.columns (stage 0).table cost (stage 0).basic ((stage steps).basic i) start.stands (same.back i l)) ∙ ring_q ((stage steps).table i 0 ∷ []) (by none (var 0)) none refl))
      ∙ ring_q (value 0 ∷ []) (plus (var 0) (minus none)) (var 0) refl

  one_stays : HaveSameColumns s.rows (stage 0).basic (stage steps).basic → (k : ℕ) → k < steps → value (suc k) ≡ value k
  one_stays same k l =
      at_most_antisym (value (suc k)) (value k) (one_falls k l)
      (at_most_trans (value k) (value 0) (value (suc k)) (all_fall 0 k (omega arith) (omega arith)) (subst (λ z. AtMost z (value (suc k))) (same_ends same) (all_fall (suc k) steps l (omega arith))))

  -- so at each pivot the value of the column that leaves is 0
  pub leaves_zero : HaveSameColumns s.rows (stage 0).basic (stage steps).basic → (k : ℕ) → k < steps → (stage k).table (leave k) 0 ≡ zero_q
  leaves_zero same k l = stays phase s cost w (stage k) (stage (suc k)) (enter k) (leave k) some (walk.sound k (omega arith)) (walk.sound (suc k) l) (walk.step k l) (one_stays same k l)

  -- and no value changes
  pub values_stay : HaveSameColumns s.rows (stage 0).basic (stage steps).basic → (m : ℕ) → m ≤ steps → (i : ℕ) → i < s.rows → (stage m).table i 0 ≡ (stage 0).table i 0
  values_stay same zero h i l = refl
  values_stay same (suc m) h i l =
      let step = walk.step m h in
      values.unchanged s.rows w s.artificial (stage m).basic (stage (suc m)).basic (stage m).table (stage (suc m)).table (enter m) (leave m) some step.enters.improves.within step.based step.pivoted (leaves_zero same m h) i l
      ∙ values_stay same m (omega arith) i l
