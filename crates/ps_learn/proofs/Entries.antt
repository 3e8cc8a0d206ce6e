-- Trails that grow, and that are cut.
use Rattle.std.proofs.Common.{◌≡◌, ℕ, zero, suc, ◌+◌, ◌-◌, ◌<◌, ◌≤◌, ℤ, Bool, true, Option, Some, None, List, [], ◌∷◌, ◌++◌, length, add-one, take, get_or, set, arith, refl, sym, ap, ◌∙◌, subst, ◌⊎◌, inl, inr}
use Rattle.std.specs.Prelude.{slice_get, unsigned_abs}
use Rattle.std.specs.List.{fold}
use Rattle.std.proofs.Math.Seq.{take-suc}
use Rattle.std.proofs.lemmas.List.Sums.{fold-append}
use Rattle.std.proofs.lemmas.Option.{slice_get_within, get_or_from_slice_get}
use Rattle.ps_pb.specs.Assignments.{Assignment, place, is_positive, value_of, with_true, is_unset, all_unset, without}
use Rattle.ps_pb.specs.Constraints.{Constraint}
use Rattle.ps_pb.specs.Steps.{Known}
use Rattle.ps_learn.specs.Trails.{TrailEntry, and_entry, values_of, IsReason, IsFresh, AreFresh, AreReasons}
use Rattle.ps_pb.proofs.Values.{unset-is}
use Rattle.ps_pb.proofs.Ids.{known-kept}
use Rattle.ps_pb.proofs.Setting.{length-with_true}
use Rattle.ps_pb.proofs.Short.{length-unset}

pub get-last : (es : List TrailEntry) (e d : TrailEntry) (i : ℕ) → slice_get (es ++ e ∷ []) i ≡ Some d → (slice_get es i ≡ Some d) ⊎ ((i ≡ length es) × (e ≡ d))
get-last [] e d zero h = inr (refl, cc)
get-last [] e d (suc i) h = absurd (cc)
get-last (x ∷ es) e d zero h = inl h
get-last (x ∷ es) e d (suc i) h = elim (get-last es e d i h) [ inl p ↦ inl p | inr q ↦ inr (ap suc q.0, q.1) ]

pub take-front : (es : List TrailEntry) (e d : TrailEntry) (i : ℕ) → slice_get es i ≡ Some d → take i (es ++ e ∷ []) ≡ take i es
take-front [] e d i h = absurd (cc)
take-front (x ∷ es) e d zero h = refl
take-front (x ∷ es) e d (suc i) h = ap (λ r. x ∷ r) (take-front es e d i h)

pub take-all : (es : List TrailEntry) (e : TrailEntry) → take (length es) (es ++ e ∷ []) ≡ es
take-all [] e = refl
take-all (x ∷ es) e = ap (λ r. x ∷ r) (take-all es e)

pub get-taken : (es : List TrailEntry) (n i : ℕ) (d : TrailEntry) → slice_get (take n es) i ≡ Some d → (slice_get es i ≡ Some d) × (take i (take n es) ≡ take i es)
get-taken [] zero i d h = absurd (cc)
get-taken [] (suc n) i d h = absurd (cc)
get-taken (x ∷ es) zero i d h = absurd (cc)
get-taken (x ∷ es) (suc n) zero d h = (h, refl)
get-taken (x ∷ es) (suc n) (suc i) d h = let r = get-taken es n i d h in (r.0, ap (λ r. x ∷ r) r.1)

pub values-append : (v : ℕ) (es : List TrailEntry) (e : TrailEntry) → values_of v (es ++ e ∷ []) ≡ with_true (values_of v es) e.lit
unfolding values_of
values-append v es e = fold-append and_entry (all_unset v) es (e ∷ [])

pub fresh-append : (v : ℕ) (es : List TrailEntry) (e : TrailEntry) → AreFresh v es → IsFresh v (values_of v es) e.lit → AreFresh v (es ++ e ∷ [])
fresh-append v es e f h = record {
  at = λ i d k. elim (get-last es e d i k) [
    | inl p ↦ rw (take-front es e d i p) (f.at i d p)
    | inr q ↦ rw (q.0, ← q.1, take-all es e) h
  ];
}

pub fresh-take : (v : ℕ) (es : List TrailEntry) (n : ℕ) → AreFresh v es → AreFresh v (take n es)
fresh-take v es n f = record { at = λ i d k. let r = get-taken es n i d k in rw r.1 (f.at i d r.0) }

pub fresh-front : (v : ℕ) (es : List TrailEntry) (e : TrailEntry) → AreFresh v (es ++ e ∷ []) → AreFresh v es
fresh-front v es e f = subst (λ xs. AreFresh v xs) (take-all es e) (fresh-take v (es ++ e ∷ []) (length es) f)

pub reasons-append : (v : ℕ) (known : Known) (es : List TrailEntry) (e : TrailEntry) → AreReasons v known es → IsReason known (values_of v es) e.lit e.reason → AreReasons v known (es ++ e ∷ [])
reasons-append v known es e f h = record {
  at = λ i d k. elim (get-last es e d i k) [
    | inl p ↦ rw (take-front es e d i p) (f.at i d p)
    | inr q ↦ rw (q.0, ← q.1, take-all es e) h
  ];
}

pub reasons-take : (v : ℕ) (known : Known) (es : List TrailEntry) (n : ℕ) → AreReasons v known es → AreReasons v known (take n es)
reasons-take v known es n f = record { at = λ i d k. let r = get-taken es n i d k in rw r.1 (f.at i d r.0) }

pub reasons-none : (v : ℕ) (known : Known) → AreReasons v known []
reasons-none v known = record { at = λ i d k. absurd (cc) }

reason_kept : (known : Known) (o : Option Constraint) (a : Assignment) (l : ℤ) (r : Option ℕ) → IsReason known a l r → IsReason (known ++ o ∷ []) a l r
reason_kept known o a l None h = tt
reason_kept known o a l (Some id) h = (h.0, known-kept known o id h.0 h.1, h.2)

pub reasons-more : (v : ℕ) (known : Known) (o : Option Constraint) (es : List TrailEntry) → AreReasons v known es → AreReasons v (known ++ o ∷ []) es
reasons-more v known o es f = record { at = λ i d k. reason_kept known o (values_of v (take i es)) d.lit d.reason (f.at i d k) }

set_back : (a : Assignment) (i : ℕ) (x : Option Bool) → get_or a i None ≡ None → set (set a i x) i None ≡ a
set_back [] i x h = refl
set_back (y ∷ a) zero x h = ap (λ z. z ∷ a) (sym h)
set_back (y ∷ a) (suc i) x h = ap (λ r. y ∷ r) (set_back a i x h)

without_place : (a : Assignment) (n : ℕ) → 1 ≤ n → without a n ≡ set a (n - 1) None
unfolding without
without_place a zero h = absurd (omega arith)
without_place a (suc p) h = let e : suc p - 1 ≡ p = omega arith in rw e refl

set_true_back : (a : Assignment) (l : ℤ) → is_unset (value_of a l) ≡ true → set (with_true a l) (place l) None ≡ a
unfolding with_true
set_true_back a l u = set_back a (place l) (Some (is_positive l)) (unset-is a l u)

pub true-undone : (a : Assignment) (l : ℤ) → 1 ≤ unsigned_abs l → is_unset (value_of a l) ≡ true → without (with_true a l) (unsigned_abs l) ≡ a
true-undone a l h u = without_place (with_true a l) (unsigned_abs l) h ∙ set_true_back a l u

get_end : (es : List TrailEntry) (e : TrailEntry) → slice_get (es ++ e ∷ []) (length es) ≡ Some e
get_end [] e = refl
get_end (x ∷ es) e = get_end es e

pub values-cut : (v : ℕ) (es : List TrailEntry) (e : TrailEntry) → AreFresh v (es ++ e ∷ []) → without (values_of v (es ++ e ∷ [])) (unsigned_abs e.lit) ≡ values_of v es
values-cut v es e f =
    let h : IsFresh v (values_of v es) e.lit = subst (λ xs. IsFresh v (values_of v xs) e.lit) (take-all es e) (f.at (length es) e (get_end es e)) in
    rw (values-append v es e) (true-undone (values_of v es) e.lit h.some h.unset)

-- the values of one entry more
pub values-more : (v : ℕ) (es : List TrailEntry) (i : ℕ) (e : TrailEntry) → slice_get es i ≡ Some e → values_of v (take (i + 1) es) ≡ with_true (values_of v (take i es)) e.lit
unfolding values_of
values-more v es i e h =
    let lt : i < length es = slice_get_within es i e h in
    let d : take (i + 1) es ≡ take i es ++ e ∷ [] = rw (add-one, take-suc es i e lt, get_or_from_slice_get es i e e h) refl in
    ap (fold and_entry (all_unset v)) d ∙ fold-append and_entry (all_unset v) (take i es) (e ∷ [])

length_fold : (a : Assignment) (es : List TrailEntry) → length (fold and_entry a es) ≡ length a
length_fold a [] = refl
length_fold a (e ∷ es) = length_fold (with_true a e.lit) es ∙ length-with_true a e.lit

pub length-values : (v : ℕ) (es : List TrailEntry) → length (values_of v es) ≡ v
unfolding values_of
length-values v es = length_fold (all_unset v) es ∙ length-unset v
