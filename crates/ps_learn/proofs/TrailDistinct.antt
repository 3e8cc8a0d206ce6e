-- Entries of a trail are of different variables, and each is found by its variable.
use Rattle.std.proofs.Common.{inl, inr, ◌≡◌, ◌≢◌, ℕ, zero, suc, ◌+◌, ◌-◌, ◌<◌, ◌≤◌, ◌==◌, ℤ, neg_ℤ, true, false, cond, Some, List, [], ◌∷◌, take, arith, refl, sym, ap, ◌∙◌}
use Rattle.std.specs.Prelude.{slice_get, unsigned_abs, is_none}
use Rattle.std.proofs.lemmas.Bool.{cases_eq, cases_lt}
use Rattle.ps_pb.specs.Assignments.{place, value_of, is_unset, with_true}
use Rattle.ps_learn.specs.Trails.{TrailEntry, values_of, decisions, entry_of, AreFresh, AreLevels}
use Rattle.ps_learn.specs.Levels.{level_at, level_or_zero}
use Rattle.ps_pb.proofs.Setting.{value-true, unset-same, size-opposite}
use Rattle.ps_learn.proofs.Entries.{values-more, length-values}
use Rattle.ps_learn.proofs.Marking.{unset-earlier}

-- the later of two entries is of another variable
pub other-place : (v : ℕ) (es : List TrailEntry) (j i : ℕ) (d e : TrailEntry) → AreFresh v es → j < i → slice_get es j ≡ Some d → slice_get es i ≡ Some e → place d.lit ≢ place e.lit
other-place v es j i d e f h p q same =
    let fresh = f.at j d p in
    let more : values_of v (take (j + 1) es) ≡ with_true (values_of v (take j es)) d.lit = values-more v es j d p in
    let set : value_of (values_of v (take (j + 1) es)) d.lit ≡ Some true = rw more (value-true (values_of v (take j es)) d.lit (rw (length-values v (take j es)) fresh.within)) in
    let unset : is_unset (value_of (values_of v (take (j + 1) es)) e.lit) ≡ true = unset-earlier v es (j + 1) i e f (omega (arith, h)) q in
    let both : is_unset (value_of (values_of v (take (j + 1) es)) d.lit) ≡ true = unset-same (values_of v (take (j + 1) es)) e.lit d.lit same unset in
    absurd (cc (set, both))

-- two places of one variable are the same
pub same-place : (v : ℕ) (es : List TrailEntry) (j i : ℕ) (d e : TrailEntry) → AreFresh v es → slice_get es j ≡ Some d → slice_get es i ≡ Some e → place d.lit ≡ place e.lit → j ≡ i
same-place v es j i d e f p q same = elim (cases_lt j i) [
  | inl lt ↦ absurd (other-place v es j i d e f lt p q same)
  | inr ge ↦ elim (cases_lt i j) [
    | inl lt ↦ absurd (other-place v es i j e d f lt q p (sym same))
    | inr le ↦ omega (arith, ge, le)
  ]
]

same_number : (n : ℕ) → (n == n) ≡ true
same_number n = grind arith

found_at : (es : List TrailEntry) (i : ℕ) (e : TrailEntry) → slice_get es i ≡ Some e → ((j : ℕ) (d : TrailEntry) → j < i → slice_get es j ≡ Some d → (unsigned_abs d.lit == unsigned_abs e.lit) ≡ false) → entry_of (unsigned_abs e.lit) es ≡ Some e
found_at [] i e q h = absurd (cc)
found_at (x ∷ es) zero e q h = let z : x ≡ e = cc q in rw (z, same_number (unsigned_abs e.lit)) refl
found_at (x ∷ es) (suc i) e q h = rw (h zero x (omega arith) refl) (found_at es i e q (λ j d lt p. h (suc j) d (omega (arith, lt)) p))

other_number : (l m : ℤ) → place l ≢ place m → (unsigned_abs l == unsigned_abs m) ≡ false
other_number l m ne = elim (cases_eq (unsigned_abs l) (unsigned_abs m)) [
  | inl e ↦ absurd (ne (ap (λ n. n - 1) e))
  | inr o ↦ grind (arith, o)
]

-- an entry is found by its variable
pub entry-found : (v : ℕ) (es : List TrailEntry) (i : ℕ) (e : TrailEntry) → AreFresh v es → slice_get es i ≡ Some e → entry_of (unsigned_abs e.lit) es ≡ Some e
entry-found v es i e f q = found_at es i e q (λ j d lt p. other_number d.lit e.lit (other-place v es j i d e f lt p q))

-- the level of its literal, and of the opposite
pub level-opposite : (v : ℕ) (es : List TrailEntry) (i : ℕ) (e : TrailEntry) → AreFresh v es → slice_get es i ≡ Some e → level_at es (neg_ℤ e.lit) ≡ e.level
level-opposite v es i e f q = ap (λ n. level_or_zero (entry_of n es)) (size-opposite e.lit) ∙ ap level_or_zero (entry-found v es i e f q)

-- a part of a trail has at most as many decisions
pub decisions-take : (es : List TrailEntry) (n : ℕ) → decisions (take n es) ≤ decisions es
decisions-take es zero = omega arith
decisions-take [] (suc n) = omega arith
decisions-take (e ∷ es) (suc n) = omega (arith, decisions-take es n)

-- one entry more
pub decisions-next : (es : List TrailEntry) (i : ℕ) (e : TrailEntry) → slice_get es i ≡ Some e → decisions (take (suc i) es) ≡ decisions (take i es) + cond (is_none e.reason) 1 0
decisions-next [] i e h = absurd (cc)
decisions-next (x ∷ es) zero e h = let q : x ≡ e = cc h in rw q (omega arith)
decisions-next (x ∷ es) (suc i) e h = omega (arith, decisions-next es i e h)

-- no level is above that of the trail
pub level-most : (es : List TrailEntry) (i : ℕ) (e : TrailEntry) → AreLevels es → slice_get es i ≡ Some e → e.level ≤ decisions es
level-most es i e f q = omega (arith, f.at i e q, decisions-take es (suc i))
