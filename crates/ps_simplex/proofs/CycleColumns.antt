-- Which columns enter and leave on a walk, and which rows change.
use Rattle.std.proofs.Common.{◌≡◌, ◌⊎◌, inl, inr, ℕ, zero, suc, ◌<◌, ◌≤◌, refl, sym, ap, ◌∙◌, subst, arith}
use Rattle.std.proofs.lemmas.Bool.{cases_eq, cases_lt}
use Rattle.ps_simplex.specs.Table.{Based}
use Rattle.ps_simplex.specs.Cycle.{IsBasicIn}

-- column c enters at one of these steps
abbrev pub EntersIn : ℕ → (ℕ → ℕ) → ℕ → Type 0
EntersIn steps enter c = (k : ℕ) × (k < steps) × (enter k ≡ c)

-- column c leaves at one of these steps
abbrev pub LeavesIn : ℕ → (ℕ → ℕ → ℕ) → (ℕ → ℕ) → ℕ → Type 0
LeavesIn steps basic leave c = (k : ℕ) × (k < steps) × (basic k (leave k) ≡ c)

-- at one of these steps row i leaves
abbrev pub ChangesIn : ℕ → (ℕ → ℕ) → ℕ → Type 0
ChangesIn steps leave i = (k : ℕ) × (k < steps) × (leave k ≡ i)

-- a step at which the greatest column enters
abbrev pub EntersGreatest : ℕ → (ℕ → ℕ) → Type 0
EntersGreatest steps enter = (t : ℕ) × (t < steps) × ((k : ℕ) → k < steps → enter k ≤ enter t)

pub greatest : (steps : ℕ) (enter : ℕ → ℕ) → 0 < steps → EntersGreatest steps enter
greatest zero enter h = absurd (omega arith)
greatest (suc m) enter h =
    elim (cases_lt 0 m) [
      | inl some ↦
          let best = greatest m enter some in
          elim (cases_lt (enter best.0) (enter m)) [
            | inl l ↦ (m, omega arith, λ k hk. elim (cases_eq k m) [ inl e ↦ (let f = ap enter e in omega (arith, f)) | inr ne ↦ (let b = best.2 k (omega arith) in omega (arith, b, l)) ])
            | inr l ↦ (best.0, (let b = best.1 in omega (arith, b)), λ k hk. elim (cases_eq k m) [ inl e ↦ (let f = ap enter e in omega (arith, f, l)) | inr ne ↦ best.2 k (omega arith) ])
          ]
      | inr none ↦ (m, omega arith, λ k hk. let e : k ≡ m = omega arith in let f = ap enter e in omega (arith, f))
    ]

module _ (n steps : ℕ) (basic : ℕ → ℕ → ℕ) (enter leave : ℕ → ℕ) (based : (k : ℕ) → k < steps → Based n (leave k) (enter k) (basic k) (basic (suc k))) where
  -- a column that is basic later was so before, or enters
  pub was_or_enters : (k m : ℕ) → k ≤ m → m ≤ steps → (i : ℕ) → i < n → IsBasicIn n (basic k) (basic m i) ⊎ EntersIn steps enter (basic m i)
  was_or_enters k zero h l i hi = let e : k ≡ zero = omega arith in inl (i, hi, ap (λ z. basic z i) e)
  was_or_enters k (suc m) h l i hi =
      elim (cases_eq k (suc m)) [
        | inl e ↦ inl (i, hi, ap (λ z. basic z i) e)
        | inr ne ↦
            elim (cases_eq i (leave m)) [
              | inl e ↦ inr (m, l, sym (ap (basic (suc m)) e ∙ (based m l).here))
              | inr ni ↦ subst (λ c. IsBasicIn n (basic k) c ⊎ EntersIn steps enter c) (sym ((based m l).others i hi ni)) (was_or_enters k m (omega arith) (omega arith) i hi)
            ]
      ]

  -- a column that is basic before is so later, or leaves
  pub stays_or_leaves : (k m : ℕ) → k ≤ m → m ≤ steps → (c : ℕ) → IsBasicIn n (basic k) c → IsBasicIn n (basic m) c ⊎ LeavesIn steps basic leave c
  stays_or_leaves k zero h l c there = let e : k ≡ zero = omega arith in inl (subst (λ z. IsBasicIn n (basic z) c) e there)
  stays_or_leaves k (suc m) h l c there =
      elim (cases_eq k (suc m)) [
        | inl e ↦ inl (subst (λ z. IsBasicIn n (basic z) c) e there)
        | inr ne ↦
            elim (stays_or_leaves k m (omega arith) (omega arith) c there) [
              | inl here ↦
                  elim (cases_eq here.0 (leave m)) [
                    | inl e ↦ inr (m, l, ap (basic m) (sym e) ∙ here.2)
                    | inr ni ↦ inl (here.0, here.1, (based m l).others here.0 here.1 ni ∙ here.2)
                  ]
              | inr left ↦ inr left
            ]
      ]

  -- a row keeps its basic column, or changes it
  pub keeps_or_changes : (m : ℕ) → m ≤ steps → (i : ℕ) → i < n → (basic m i ≡ basic 0 i) ⊎ ChangesIn steps leave i
  keeps_or_changes zero l i hi = inl refl
  keeps_or_changes (suc m) l i hi =
      elim (cases_eq i (leave m)) [
        | inl e ↦ inr (m, l, sym e)
        | inr ni ↦
            elim (keeps_or_changes m (omega arith) i hi) [
              | inl e ↦ inl ((based m l).others i hi ni ∙ e)
              | inr changed ↦ inr changed
            ]
      ]
