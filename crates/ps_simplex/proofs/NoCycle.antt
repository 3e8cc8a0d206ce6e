-- No walk of lawful pivots leads from a basis to one of the same columns.
use Rattle.std.proofs.Common.{◌≡◌, ◌≢◌, ◌⊎◌, inl, inr, ℕ, suc, ◌<◌, ◌≤◌, false, sym, ap, ◌∙◌, subst, arith}
use Rattle.std.proofs.lemmas.Bool.{true≢false}
use Rattle.ps_meaning.specs.Rational.{Rational, zero_q}
use Rattle.ps_simplex.specs.Table.{carried_by}
use Rattle.ps_simplex.specs.declared.phase.Phase.{Phase}
use Rattle.ps_simplex.specs.Rule.{HasLeastRatio}
use Rattle.ps_simplex.specs.Pivots.{System, simplex_table}
use Rattle.ps_simplex.proofs.OnePivot.{distinct}
use Rattle.ps_simplex.specs.Cycle.{IsBasicIn, HaveSameColumns}
use Rattle.ps_simplex.proofs.Signs.{difference_not_zero}
use Rattle.ps_simplex.proofs.Values as values
use Rattle.ps_simplex.proofs.Heart.{gain_of_basic, IsLow, no_leaving}
use Rattle.ps_simplex.proofs.Walks.{Stage, IsWalk}
use Rattle.ps_simplex.proofs.Degenerate.{leaves_by, leaves_zero, values_stay}
use Rattle.ps_simplex.proofs.CycleColumns.{EntersIn, LeavesIn, ChangesIn, greatest, was_or_enters, stays_or_leaves, keeps_or_changes}

module _ (phase : Phase) (s : System) (cost : ℕ → Rational) (w steps : ℕ) (stage : ℕ → Stage) (enter leave : ℕ → ℕ) (some : 0 < w) (walk : IsWalk phase s cost w steps stage enter leave) (same : HaveSameColumns s.rows (stage 0).basic (stage steps).basic) where
  abbrev basic : ℕ → ℕ → ℕ
  basic k = (stage k).basic

  abbrev Row : ℕ → ℕ → Type 0
  Row k c = IsBasicIn s.rows (basic k) c

  -- a column that enters isn't basic
  not_basic : (k : ℕ) → (l : k < steps) → Row k (enter k) → ⊥
  not_basic k l here =
      let stands = (walk.sound k (omega arith)).stands in
      difference_not_zero (carried_by s.rows cost (stage k).basic (stage k).table (enter k)) (cost (enter k)) (walk.step k l).enters.improves.more
      (gain_of_basic s.rows w s.columns (stage k).table cost (stage k).basic (enter k) stands here)

  -- it leaves at some step
  leaves_again : (t : ℕ) → t < steps → LeavesIn steps basic leave (enter t)
  leaves_again t l =
      let step = walk.step t l in
      let row = values.row_within s.rows w s.artificial (stage t).basic (stage (suc t)).basic (stage t).table (stage (suc t)).table (enter t) (leave t) some step.enters.improves.within step.based step.pivoted
      (leaves_by phase s cost w (stage t) (stage (suc t)) (enter t) (leave t) some (walk.sound t (omega arith)) (walk.sound (suc t) l) step) in
      elim (stays_or_leaves s.rows steps basic enter leave (λ k h. (walk.step k h).based) (suc t) steps l (omega arith) (enter t) (leave t, row, step.based.here)) [
        | inl end ↦
            let start : Row 0 (enter t) = subst (Row 0) end.2 (same.back end.0 end.1) in
            elim (stays_or_leaves s.rows steps basic enter leave (λ k h. (walk.step k h).based) 0 t (omega arith) (omega arith) (enter t) start) [
              | inl here ↦ absurd (not_basic t l here)
              | inr left ↦ left
            ]
        | inr left ↦ left
      ]

  -- a column that is basic at one stage is basic at another, or enters at some step
  basic_or_enters : (t u : ℕ) → t ≤ steps → u ≤ steps → (i : ℕ) → i < s.rows → Row t (basic u i) ⊎ EntersIn steps enter (basic u i)
  basic_or_enters t u ht hu i hi =
      elim (was_or_enters s.rows steps basic enter leave (λ k h. (walk.step k h).based) 0 u (omega arith) hu i hi) [
        | inl start ↦
            let end : Row steps (basic u i) = subst (Row steps) start.2 (same.there start.0 start.1) in
            subst (λ c. Row t c ⊎ EntersIn steps enter c) end.2 (was_or_enters s.rows steps basic enter leave (λ k h. (walk.step k h).based) t steps ht (omega arith) end.0 end.1)
        | inr enters ↦ inr enters
      ]

  -- the value of a row that changes is 0 at each stage
  changed_zero : (i : ℕ) → i < s.rows → ChangesIn steps leave i → (u : ℕ) → u ≤ steps → (stage u).table i 0 ≡ zero_q
  changed_zero i hi changed u hu =
      values_stay phase s cost w steps stage enter leave some walk same u hu i hi
      ∙ sym (values_stay phase s cost w steps stage enter leave some walk same changed.0 (let l = changed.1 in omega (arith, l)) i hi)
      ∙ ap (λ z. (stage changed.0).table z 0) (sym changed.2)
      ∙ leaves_zero phase s cost w steps stage enter leave some walk same changed.0 changed.1

  module _ (t u : ℕ) (ht : t < steps) (hu : u < steps) (most : (k : ℕ) → k < steps → enter k ≤ enter t) (left : basic u (leave u) ≡ enter t) where
    real : s.artificial (enter t) ≡ false
    real = (walk.step t ht).enters.improves.real

    -- it leaves by the least ratio, since it is no artificial
    by_ratio : values.HowLeaves (simplex_table s w (stage u).basic (stage u).table) (enter u) (leave u) → HasLeastRatio (simplex_table s w (stage u).basic (stage u).table) (enter u) (leave u)
    by_ratio h = elim h [ inl least ↦ least | inr row ↦ absurd (true≢false (sym row.0.artificial ∙ ap s.artificial left ∙ real)) ]

    each : leave u < s.rows → (i : ℕ) → i < s.rows → i ≢ leave u → Row t (basic u i) ⊎ (((stage u).table i 0 ≡ zero_q) × IsLow s.artificial (enter t) (basic u i))
    each row i hi ne =
        let changed : ChangesIn steps leave i → Row t (basic u i) ⊎ (((stage u).table i 0 ≡ zero_q) × IsLow s.artificial (enter t) (basic u i)) =
        λ c. elim (basic_or_enters t u (omega arith) (omega arith) i hi) [
          | inl here ↦ inl here
          | inr enters ↦
              let improves = (walk.step enters.0 enters.1).enters.improves in
              let apart : basic u i ≢ enter t = λ e. ne (distinct s.rows w s.columns (stage u).table (stage u).basic (walk.sound u (omega arith)).stands i (leave u) hi row (e ∙ sym left)) in
              let top = most enters.0 enters.1 in
              let is = enters.2 in
              inr (
                changed_zero i hi c u (omega arith),
                record {
                  column = subst (λ z. 0 < z) is improves.column;
                  real = ap s.artificial (sym is) ∙ improves.real;
                  below = omega (arith, top, is, apart);
                },
              )
        ] in
        elim (keeps_or_changes s.rows steps basic enter leave (λ k h. (walk.step k h).based) t (omega arith) i hi) [
          | inl a ↦
              elim (keeps_or_changes s.rows steps basic enter leave (λ k h. (walk.step k h).based) u (omega arith) i hi) [
                | inl b ↦ inl (i, hi, a ∙ sym b)
                | inr c ↦ changed c
              ]
          | inr c ↦ changed c
        ]

    contradiction : ⊥
    contradiction =
        let x = walk.sound t (omega arith) in
        let y = walk.sound u (omega arith) in
        let step = walk.step u hu in
        let by = leaves_by phase s cost w (stage u) (stage (suc u)) (enter u) (leave u) some y (walk.sound (suc u) hu) step in
        let row = values.row_within s.rows w s.artificial (stage u).basic (stage (suc u)).basic (stage u).table (stage (suc u)).table (enter u) (leave u) some step.enters.improves.within step.based step.pivoted by in
        let top = most u hu in
        let apart : enter u ≢ enter t = λ e. not_basic u hu (leave u, row, left ∙ sym e) in
        no_leaving s.rows w s.columns (stage t).table (stage u).table s.artificial cost (stage t).basic (stage u).basic (enter t) (enter u) (leave u)
        x.stands y.stands y.basis (walk.step t ht).enters step.enters (by_ratio by) left (omega (arith, top, apart))
        (leaves_zero phase s cost w steps stage enter leave some walk same u hu) (each row)

  pub no_cycle : 0 < steps → ⊥
  no_cycle some_steps =
      let best = greatest steps enter some_steps in
      let left = leaves_again best.0 best.1 in
      contradiction best.0 left.0 best.1 left.1 best.2 left.2
