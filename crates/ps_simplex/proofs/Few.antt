-- A walk has fewer steps than there are bases.
use Rattle.std.proofs.Common.{◌≡◌, ◌≢◌, ℕ, zero, suc, ◌+◌, ◌-◌, ◌<◌, ◌≤◌, List, length, sym, ap, ◌∙◌, subst, arith, inl, inr}
use Rattle.std.proofs.lemmas.Bool.{cases_eq}
use Rattle.ps_meaning.specs.Rational.{Rational}
use Rattle.ps_simplex.specs.Table.{IsBasisTable, IsBasis}
use Rattle.ps_simplex.specs.declared.phase.Phase.{Phase}
use Rattle.ps_simplex.specs.Pivots.{linear_program, System, simplex_table, Pivot, Pivots}
use Rattle.ps_simplex.proofs.OnePivot.{distinct}
use Rattle.ps_simplex.specs.Count.{choose}
use Rattle.ps_simplex.specs.Cycle.{IsStart, HaveSameColumns}
use Rattle.ps_simplex.proofs.Choices.{count, rank, rank_less}
use Rattle.ps_simplex.proofs.Chosen.{chosen, count_chosen, same_number}
use Rattle.ps_simplex.proofs.Pigeons.{pigeons}
use Rattle.ps_simplex.proofs.Walks.{Stage, IsStep, IsWalk, walk_of}
use Rattle.ps_simplex.proofs.NoCycle.{no_cycle}

module _ (phase : Phase) (s : System) (cost : ℕ → Rational) (m steps : ℕ) (stage : ℕ → Stage) (enter leave : ℕ → ℕ) (walk : IsWalk phase s cost (suc m) steps stage enter leave) (above : (i : ℕ) → i < s.rows → 0 < (stage 0).basic i) where
  abbrev w : ℕ
  w = suc m

  abbrev basic : ℕ → ℕ → ℕ
  basic k = (stage k).basic

  -- the right side is never basic
  all_above : (k : ℕ) → k ≤ steps → (i : ℕ) → i < s.rows → 0 < basic k i
  all_above zero h i l = above i l
  all_above (suc k) h i l =
      let step = walk.step k h in
      elim (cases_eq i (leave k)) [
        | inl e ↦ subst (λ c. 0 < c) (sym (ap (basic (suc k)) e ∙ step.based.here)) step.enters.improves.column
        | inr ne ↦ subst (λ c. 0 < c) (sym (step.based.others i l ne)) (all_above k (omega (arith, h)) i l)
      ]

  apart_at : (k : ℕ) → k ≤ steps → (i j : ℕ) → i < j → j < s.rows → basic k i ≢ basic k j
  apart_at k h i j l hj e =
      let one : i ≡ j = distinct s.rows w s.columns (stage k).table (basic k) (walk.sound k h).stands i j (omega (arith, l, hj)) hj e in
      absurd (omega (arith, l, one))

  counted : (k : ℕ) → k ≤ steps → count m (chosen s.rows (basic k)) ≡ s.rows
  counted k h = count_chosen s.rows m (basic k) (all_above k h) (λ i l. (walk.sound k h).basis i l) (apart_at k h)

  -- from a step on, up to another
  part : (i j : ℕ) → i ≤ j → j ≤ steps → IsWalk phase s cost (suc m) (j - i) (λ k. stage (i + k)) (λ k. enter (i + k)) (λ k. leave (i + k))
  part i j h l = record {
    sound = λ k hk. walk.sound (i + k) (omega (arith, h, l, hk));
    step = λ k hk. let e : suc (i + k) ≡ i + suc k = omega arith in subst (λ z. IsStep phase s cost (suc m) (stage (i + k)) (enter (i + k)) (leave (i + k)) (stage z)) e (walk.step (i + k) (omega (arith, h, l, hk)));
  }

  numbers_apart : (i j : ℕ) → i < j → j < suc steps → rank m (chosen s.rows (basic i)) ≢ rank m (chosen s.rows (basic j))
  numbers_apart i j h l e =
      let hi : i ≤ steps = omega (arith, h, l) in
      let hj : j ≤ steps = omega (arith, l) in
      let same : HaveSameColumns s.rows (basic i) (basic j) =
      same_number s.rows m (basic i) (basic j) (all_above i hi) (λ r k. (walk.sound i hi).basis r k) (all_above j hj) (λ r k. (walk.sound j hj).basis r k) (counted i hi ∙ sym (counted j hj)) e in
      let first : i + 0 ≡ i = omega arith in
      let last : i + (j - i) ≡ j = omega (arith, h) in
      no_cycle phase s cost (suc m) (j - i) (λ k. stage (i + k)) (λ k. enter (i + k)) (λ k. leave (i + k)) (omega arith) (part i j (omega (arith, h)) hj)
      (subst (λ z. HaveSameColumns s.rows (basic z) (basic (i + (j - i)))) (sym first) (subst (λ z. HaveSameColumns s.rows (basic i) (basic z)) (sym last) same))
      (omega (arith, h))

  pub few_steps : steps < choose m s.rows
  few_steps =
      pigeons (suc steps) (choose m s.rows) (λ k. rank m (chosen s.rows (basic k)))
      (λ k l. subst (λ c. rank m (chosen s.rows (basic k)) < choose m c) (counted k (omega (arith, l))) (rank_less m (chosen s.rows (basic k))))
      numbers_apart

pub few_pivots : (phase : Phase) (s : System) (cost : ℕ → Rational) (m : ℕ) (a b : ℕ → ℕ) (X : ℕ → ℕ → Rational) (pivots : List Pivot)
    → s.rows < suc m → IsBasis s.rows (suc m) a → ((i : ℕ) → i < s.rows → 0 < a i) → IsBasisTable s.rows (suc m) s.columns a X → IsStart phase (simplex_table s (suc m) a X)
    → Pivots (linear_program phase s cost (suc m)) a pivots b
    → length pivots < choose m s.rows
few_pivots phase s cost m a b X pivots hn basis above stands start there =
    let ends = walk_of phase s cost (suc m) hn a b X pivots (record { basis = basis; stands = stands; start = start }) there in
    let h = ends.1 in
    few_steps phase s cost m (length pivots) h.stage h.enter h.leave h.walk
    (subst (λ z. (i : ℕ) → i < s.rows → 0 < z.basic i) (sym h.first) above)
