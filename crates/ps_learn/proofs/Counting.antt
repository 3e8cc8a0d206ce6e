-- How many variables are unset, and how long a trail is.
use Rattle.std.proofs.Common.{◌≡◌, ℕ, zero, suc, ◌+◌, ◌<◌, ◌≤◌, ℤ, Some, List, [], ◌∷◌, length, take, arith, refl, ap, ◌∙◌, subst}
use Rattle.std.specs.Prelude.{slice_get}
use Rattle.ps_pb.specs.Assignments.{Assignment, place, is_positive, with_true}
use Rattle.ps_learn.specs.Trails.{TrailEntry, values_of, unset_count, IsFresh, AreFresh}
use Rattle.ps_pb.proofs.Values.{unset-is}
use Rattle.ps_pb.proofs.Short.{one_less, unset-all}
use Rattle.ps_learn.proofs.Entries.{length-values, values-more}
use Rattle.std.proofs.lemmas.List.{take_all}

pub fewer-unset : (a : Assignment) (l : ℤ) → IsFresh (length a) a l → suc (unset_count (with_true a l)) ≡ unset_count a
unfolding with_true
fewer-unset a l f = one_less a (place l) (is_positive l) (unset-is a l f.unset) f.within

counted_to : (v : ℕ) (es : List TrailEntry) (n : ℕ) → AreFresh v es → n ≤ length es → unset_count (values_of v (take n es)) + n ≡ v
unfolding values_of
counted_to v es zero f h = omega (arith, unset-all v)
counted_to v es (suc n) f h =
    let r = entry_at es n (omega (arith, h)) in
    let e : suc n ≡ n + 1 = omega arith in
    let before = values_of v (take n es) in
    let fresh : IsFresh (length before) before r.0.lit = rw (length-values v (take n es)) (f.at n r.0 r.1) in
    let more : values_of v (take (suc n) es) ≡ with_true before r.0.lit = ap (λ k. values_of v (take k es)) e ∙ values-more v es n r.0 r.1 in
    omega (arith, ap unset_count more, fewer-unset before r.0.lit fresh, counted_to v es n f (omega (arith, h)))
  where
    entry_at : (es : List TrailEntry) (i : ℕ) → i < length es → (e : TrailEntry) × (slice_get es i ≡ Some e)
    entry_at [] i h = absurd (omega arith)
    entry_at (e ∷ es) zero h = (e, refl)
    entry_at (e ∷ es) (suc i) h = entry_at es i (omega (arith, h))

-- each variable is unset or stands on the trail once
pub counted : (v : ℕ) (es : List TrailEntry) → AreFresh v es → unset_count (values_of v es) + length es ≡ v
counted v es f = let e : take (length es) es ≡ es = take_all (length es) es (omega arith) in subst (λ xs. unset_count (values_of v xs) + length es ≡ v) e (counted_to v es (length es) f (omega arith))
