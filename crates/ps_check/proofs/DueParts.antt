-- The parts that are due, as they are kept.
use Rattle.std.proofs.Common.{◌≡◌, ℕ, zero, suc, ◌-◌, ◌≤◌, List, [], ◌∷◌, ◌++◌, length, take, All, get_or, Some, refl, ap, ◌∙◌, arith}
use Rattle.std.proofs.lemmas.List.Elements.{All-pop}
use Rattle.ps_answer.specs.declared.part.Part.{Part}
use Rattle.ps_answer.specs.ExpectedParts.{many}
use Rattle.ps_check.specs.declared.due.Run.{Run}
use Rattle.ps_check.specs.Runs.{parts_before, parts_of, first_due}

-- a run more
pub push_run : (due : List Part) (rs : List Run) (r : Run) → parts_before due (rs ++ r ∷ []) ≡ many r.count r.part (parts_before due rs)
push_run due [] r = refl
push_run due (x ∷ rs) r = push_run (many x.count x.part due) rs r

-- the first of many
many_first : (n : ℕ) (p : Part) (due : List Part) → 1 ≤ n → first_due (many n p due) ≡ Some p
many_first zero p due l = absurd (omega (arith, l))
many_first (suc n) p due l = refl

pub many_taken : (n : ℕ) (p : Part) (due : List Part) → 1 ≤ n → many n p due ≡ p ∷ many (n - 1) p due
many_taken zero p due l = absurd (omega (arith, l))
many_taken (suc n) p due l = ap (λ m. p ∷ many m p due) (omega arith)

pub next_of_runs : (rs : List Run) (r : Run) → 1 ≤ r.count → first_due (parts_of (rs ++ r ∷ [])) ≡ Some r.part
next_of_runs rs r l = ap first_due (push_run [] rs r) ∙ many_first r.count r.part (parts_of rs) l

-- the last run, and those before it
last_at : (rs : List Run) (d : Run) (n : ℕ) → length rs ≡ suc n → rs ≡ take n rs ++ get_or rs n d ∷ []
last_at [] d n e = absurd (omega (arith, e))
last_at (r ∷ []) d zero e = refl
last_at (r ∷ []) d (suc n) e = absurd (omega (arith, e))
last_at (r ∷ s ∷ rs) d zero e = absurd (omega (arith, e))
last_at (r ∷ s ∷ rs) d (suc n) e = ap (λ xs. r ∷ xs) (last_at (s ∷ rs) d n (omega (arith, e)))

last_run : (rs : List Run) (d : Run) → 1 ≤ length rs → rs ≡ take (length rs - 1) rs ++ get_or rs (length rs - 1) d ∷ []
last_run rs d l = last_at rs d (length rs - 1) (omega (arith, l))

pub next_of_last : (rs : List Run) (d : Run) → 1 ≤ length rs → All (λ (r : Run). 1 ≤ r.count) rs → first_due (parts_of rs) ≡ Some (get_or rs (length rs - 1) d).part
next_of_last rs d l a =
    let e = last_run rs d l in
    let least = (All-pop (λ (r : Run). 1 ≤ r.count) rs (take (length rs - 1) rs) (Some (get_or rs (length rs - 1) d)) e a).1 in
    ap (λ xs. first_due (parts_of xs)) e ∙ next_of_runs (take (length rs - 1) rs) (get_or rs (length rs - 1) d) least
