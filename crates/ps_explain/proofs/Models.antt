-- Models of all sentences but one, and the explanations that they make.
use Rattle.std.proofs.Common.{◌≡◌, ◌+◌, inl, inr, ℕ, zero, suc, Bool, true, false, List, [], ◌∷◌, ◌++◌, take, get_or, All, refl, sym, ap, ◌∙◌, subst, arith}
use Rattle.std.proofs.lemmas.Bool.{true≢false}
use Rattle.std.proofs.lemmas.List.Elements.{All-nil, All-cons, All-head, All-tail}
use Rattle.std.proofs.lemmas.Slice.Zip.{all_zipped_more}
use Rattle.ps_problem.specs.Problems.{Parts, AreParts}
use Rattle.ps_table.specs.declared.event.Event.{Event}
use Rattle.ps_answer.specs.declared.answer.Cause.{Cause}
use Rattle.ps_answer.specs.declared.answer.Model.{Model}
use Rattle.ps_claims.specs.Answers.{ShowsConsistent}
use Rattle.ps_problem.specs.Problems.{bounds_of}
use Rattle.ps_claims.specs.Certificates.{model_of}
use Rattle.std.proofs.Common.{length}
use Rattle.ps_runs.specs.Kept.{kept_parts, IsChoice, AreAllKept}
use Rattle.ps_runs.proofs.Kept.{parts-all}
use Rattle.ps_claims.specs.Printed.{IsPrintedModel, IsPrintedCause}
use Rattle.ps_runs.specs.declared.limits.Limits.{Limits}
use Rattle.ps_explain.specs.declared.conflict.Conflict.{Conflict}
use Rattle.ps_explain.specs.declared.explained.Explained.TheVariants as explained
use Rattle.ps_explain.specs.Explanations.{places_from, numbers_of, without, IsModelOfKept, IsModelWithout, IsOpen, IsExplanation}
use Rattle.ps_explain.specs.Steps.{AreModelsWithout, IsConflict}
use Rattle.ps_explain.proofs.Needed.{shown_none, one_short, choice_without}

-- ---- places
places_kept : (ks : List Bool) (n i : ℕ) → get_or ks i false ≡ true → places_from n (take (suc i) ks) ≡ places_from n (take i ks) ++ (n + i) ∷ []
places_kept [] n i e = absurd (true≢false (sym e))
places_kept (true ∷ ks) n zero e = ap (λ k. k ∷ []) (right_zero n)
  where
    right_zero : (n : ℕ) → n ≡ n + 0
    right_zero n = omega arith
places_kept (false ∷ ks) n zero e = absurd (true≢false (sym e))
places_kept (true ∷ ks) n (suc i) e =
    ap (λ r. n ∷ r) (places_kept ks (suc n) i e ∙ ap (λ k. places_from (suc n) (take i ks) ++ k ∷ []) (moved n i))
  where
    moved : (n i : ℕ) → suc n + i ≡ n + suc i
    moved n i = omega arith
places_kept (false ∷ ks) n (suc i) e = places_kept ks (suc n) i e ∙ ap (λ k. places_from (suc n) (take i ks) ++ k ∷ []) (moved n i)
  where
    moved : (n i : ℕ) → suc n + i ≡ n + suc i
    moved n i = omega arith

places_not : (ks : List Bool) (n i : ℕ) → get_or ks i false ≡ false → places_from n (take (suc i) ks) ≡ places_from n (take i ks)
places_not [] n zero e = refl
places_not [] n (suc i) e = refl
places_not (true ∷ ks) n zero e = absurd (true≢false e)
places_not (false ∷ ks) n zero e = refl
places_not (true ∷ ks) n (suc i) e = ap (λ r. n ∷ r) (places_not ks (suc n) i e)
places_not (false ∷ ks) n (suc i) e = places_not ks (suc n) i e

next_is : (i : ℕ) → i + 1 ≡ suc i
next_is i = omega arith

-- ---- models
all_more : {X : Type 0} (P : X → Type 0) (xs : List X) (x : X) → All P xs → P x → All P (xs ++ x ∷ [])
all_more P [] x h own = All-cons P x [] own (All-nil P)
all_more P (y ∷ ys) x h own = All-cons P y (ys ++ x ∷ []) (All-head P y ys h) (all_more P ys x (All-tail P y ys h) own)

pub models_none : (p : Parts) (kept : List Bool) → AreModelsWithout p kept [] []
models_none p kept = record { each = tt; printed = All-nil IsPrintedModel }

pub models_not_kept : (p : Parts) (kept : List Bool) (i : ℕ) (models : List Model) → get_or kept i false ≡ false → AreModelsWithout p kept (places_from 0 (take i kept)) models
    → AreModelsWithout p kept (places_from 0 (take (i + 1) kept)) models
models_not_kept p kept i models out h =
    subst (λ places. AreModelsWithout p kept places models) (sym (ap (λ n. places_from 0 (take n kept)) (next_is i) ∙ places_not kept 0 i out)) h

pub models_more : (p : Parts) (kept : List Bool) (i : ℕ) (models more : List Model) (m : Model) → get_or kept i false ≡ true → IsModelWithout p kept i m → IsPrintedModel m
    → more ≡ models ++ m ∷ [] → AreModelsWithout p kept (places_from 0 (take i kept)) models → AreModelsWithout p kept (places_from 0 (take (i + 1) kept)) more
models_more p kept i models more m is model printed e h =
    subst (λ ms. AreModelsWithout p kept (places_from 0 (take (i + 1) kept)) ms) (sym e)
    (
    subst (λ places. AreModelsWithout p kept places (models ++ m ∷ []))
    (sym (ap (λ n. places_from 0 (take n kept)) (next_is i) ∙ places_kept kept 0 i is ∙ ap (λ k. places_from 0 (take i kept) ++ k ∷ []) (from_zero i)))
    (record {
      each = all_zipped_more (IsModelWithout p kept) (places_from 0 (take i kept)) models i m h.each model;
      printed = all_more IsPrintedModel models m h.printed printed;
    })
    )
  where
    from_zero : (i : ℕ) → 0 + i ≡ i
    from_zero i = omega arith

-- ---- explanations
pub core_found : (limits : Limits) (p : Parts) (c : Conflict) (numbers : List ℕ) (models : List Model) → AreParts p → IsConflict p c → numbers ≡ numbers_of c.kept
    → AreModelsWithout p c.kept (places_from 0 c.kept) models → IsExplanation limits p (explained.Core numbers c.dual models)
core_found limits p c numbers models are is named h = record {
  right = record {
    kept = c.kept;
    choice = is.choice;
    named = named;
    inconsistent = shown_none p c.kept c.dual are is.choice is.shown;
    shown = is.shown;
    needed = h.each;
  };
  printed = (is.printed, h.printed);
}

-- a run over all sentences of a conflict but one is open
pub open_without : (limits : Limits) (p : Parts) (c : Conflict) (i : ℕ) (numbers : List ℕ) (cause : Cause) (events : List Event) → AreParts p → IsConflict p c
    → get_or c.kept i false ≡ true → numbers ≡ numbers_of (without c.kept i)
    → IsOpen limits (kept_parts (without c.kept i) p) cause events × IsPrintedCause cause
    → IsExplanation limits p (explained.Open numbers cause events)
open_without limits p c i numbers cause events are is kept named h = record {
  right = record {
    kept = without c.kept i;
    choice = choice_without p c.kept i is.choice;
    named = named;
    which = inr (one_short p c i are is kept);
    lawful = h.0;
  };
  printed = h.1;
}

-- a distribution meets all sentences
pub all_met : (limits : Limits) (p : Parts) (kept : List Bool) (m : Model) → IsChoice kept p → AreAllKept kept → IsModelOfKept p kept m × IsPrintedModel m
    → IsExplanation limits p (explained.Consistent m)
all_met limits p kept m choice all h = record {
  right = subst (λ (q : Parts). ShowsConsistent (length q.names) (bounds_of q) (model_of m)) (parts-all kept p choice all) h.0;
  printed = h.1;
}

-- the run over all sentences is open
pub all_open : (limits : Limits) (p : Parts) (kept : List Bool) (numbers : List ℕ) (cause : Cause) (events : List Event) → IsChoice kept p → AreAllKept kept
    → numbers ≡ numbers_of kept → IsOpen limits (kept_parts kept p) cause events × IsPrintedCause cause
    → IsExplanation limits p (explained.Open numbers cause events)
all_open limits p kept numbers cause events choice all named h = record {
  right = record { kept = kept; choice = choice; named = named; which = inl all; lawful = h.0 };
  printed = h.1;
}
