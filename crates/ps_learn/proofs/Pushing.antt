-- A trail with one literal more.
use Rattle.std.proofs.Common.{◌≡◌, ℕ, zero, suc, ◌+◌, ◌<◌, ◌≤◌, ◌^◌, ℤ, Bool, true, false, cond, Some, None, List, [], ◌∷◌, ◌++◌, length, take, set, arith, refl, sym, ap, ◌∙◌, subst, inl, inr}
use Rattle.std.specs.Prelude.{slice_get, slice_set, is_none}
use Rattle.ps_pb.specs.Assignments.{Assignment, with_true, all_unset}
use Rattle.ps_learn.specs.Trails.{TrailEntry, Trail, values_of, values, decided, implied, decisions, IsFresh, AreLevels}
use Rattle.ps_pb.proofs.Setting.{length-with_true}
use Rattle.ps_pb.proofs.Short.{length-unset}
use Rattle.ps_learn.proofs.Entries.{values-append, fresh-append, get-last, length-values}
use Rattle.ps_learn.proofs.Counting.{counted, fewer-unset}
use Rattle.ps_learn.specs.Fields.{trail_of, IsTrail}

-- one slot more is used
pub take-set : (xs : List TrailEntry) (n : ℕ) (e : TrailEntry) → n < length xs → take (suc n) (set xs n e) ≡ take n xs ++ e ∷ []
take-set [] n e h = absurd (omega arith)
take-set (x ∷ xs) zero e h = refl
take-set (x ∷ xs) (suc n) e h = ap (λ r. x ∷ r) (take-set xs n e (omega (arith, h)))

pub length-take : (xs : List TrailEntry) (n : ℕ) → n ≤ length xs → length (take n xs) ≡ n
length-take xs zero h = refl
length-take [] (suc n) h = absurd (omega arith)
length-take (x ∷ xs) (suc n) h = ap suc (length-take xs n (omega (arith, h)))

length-put : (xs : List TrailEntry) (n : ℕ) (e : TrailEntry) → length (set xs n e) ≡ length xs
length-put [] n e = refl
length-put (x ∷ xs) zero e = refl
length-put (x ∷ xs) (suc n) e = ap suc (length-put xs n e)

abbrev pub one_if : Bool → ℕ
one_if b = cond b 1 0

pub decisions-append : (es : List TrailEntry) (e : TrailEntry) → decisions (es ++ e ∷ []) ≡ decisions es + one_if (is_none e.reason)
decisions-append [] e = omega arith
decisions-append (x ∷ es) e = omega (arith, decisions-append es e)

one_most : (b : Bool) → one_if b ≤ 1
one_most true = omega arith
one_most false = omega arith

pub decisions-few : (es : List TrailEntry) → decisions es ≤ length es
decisions-few [] = omega arith
decisions-few (e ∷ es) = omega (arith, one_most (is_none e.reason), decisions-few es)

take-end : (es : List TrailEntry) (e : TrailEntry) → take (suc (length es)) (es ++ e ∷ []) ≡ es ++ e ∷ []
take-end [] e = refl
take-end (x ∷ es) e = ap (λ r. x ∷ r) (take-end es e)

take-front' : (es : List TrailEntry) (e d : TrailEntry) (i : ℕ) → slice_get es i ≡ Some d → take (suc i) (es ++ e ∷ []) ≡ take (suc i) es
take-front' [] e d i h = absurd (cc)
take-front' (x ∷ es) e d zero h = refl
take-front' (x ∷ es) e d (suc i) h = ap (λ r. x ∷ r) (take-front' es e d i h)

pub levels-append : (es : List TrailEntry) (e : TrailEntry) → AreLevels es → e.level ≡ decisions (es ++ e ∷ []) → AreLevels (es ++ e ∷ [])
levels-append es e f h = record {
  at = λ i d k. elim (get-last es e d i k) [
    | inl p ↦ rw (take-front' es e d i p) (f.at i d p)
    | inr q ↦ rw (q.0, ← q.1, take-end es e) h
  ];
}

-- a variable that is unset leaves room
pub has-room : (a : Assignment) (slots : List TrailEntry) (used level : ℕ) (l : ℤ) → IsTrail a slots used level → IsFresh (length a) (values_of (length a) (take used slots)) l → used < length slots
has-room a slots used level l t f =
    let es = take used slots in
    let n = counted (length a) es t.fresh in
    let len = length-values (length a) es in
    let more = fewer-unset (values_of (length a) es) l (rw len f) in
    omega (arith, n, more, t.room, length-take slots used t.within)

-- the level fits
pub level-small : (a : Assignment) (slots : List TrailEntry) (used level : ℕ) (l : ℤ) → IsTrail a slots used level → IsFresh (length a) (values_of (length a) (take used slots)) l → level + 1 < 2 ^ 32
level-small a slots used level l t f = omega (arith, has-room a slots used level l t f, t.room, t.narrow, t.level_is, decisions-few (take used slots), length-take slots used t.within)

pub pushed : (a : Assignment) (slots : List TrailEntry) (used level : ℕ) (e : TrailEntry) → IsTrail a slots used level → IsFresh (length a) (values_of (length a) (take used slots)) e.lit → e.level ≡ decisions (take used slots) + one_if (is_none e.reason) → IsTrail (with_true a e.lit) (slice_set slots used e) (used + 1) e.level
pushed a slots used level e t f h =
    let es = take used slots in
    let room = has-room a slots used level e.lit t f in
    let l : length (with_true a e.lit) ≡ length a = length-with_true a e.lit in
    let one : used + 1 ≡ suc used = omega arith in
    let now : take (used + 1) (slice_set slots used e) ≡ es ++ e ∷ [] = rw one (take-set slots used e room) in
    let lev : e.level ≡ decisions (es ++ e ∷ []) = h ∙ sym (decisions-append es e) in
    record {
      values = rw (l, now) (ap (λ b. with_true b e.lit) t.values ∙ sym (values-append (length a) es e));
      fresh = rw (l, now) (fresh-append (length a) es e t.fresh f);
      levels = rw now (levels-append es e t.levels lev);
      level_is = rw now lev;
      room = length-put slots used e ∙ t.room ∙ sym l;
      within = rw (length-put slots used e) (omega (arith, room));
      narrow = rw l t.narrow;
    }

pub pushed-view : (a : Assignment) (slots : List TrailEntry) (used level : ℕ) (e : TrailEntry) → IsTrail a slots used level → IsFresh (length a) (values_of (length a) (take used slots)) e.lit → trail_of (with_true a e.lit) (slice_set slots used e) (used + 1) ≡ record { variables = length a; entries = take used slots ++ e ∷ [] }
pushed-view a slots used level e t f =
    let one : used + 1 ≡ suc used = omega arith in
    let now : take (used + 1) (slice_set slots used e) ≡ take used slots ++ e ∷ [] = rw one (take-set slots used e (has-room a slots used level e.lit t f)) in
    (λ i. record { variables = length-with_true a e.lit i; entries = now i })

-- a new trail
pub new-trail : (v : ℕ) (slots : List TrailEntry) → length slots ≡ v → v < 2 ^ 32 → IsTrail (all_unset v) slots 0 0
unfolding values_of
new-trail v slots h n =
    let l : length (all_unset v) ≡ v = length-unset v in
    record {
      values = ap all_unset (sym l);
      fresh = record { at = λ i e k. absurd (cc) };
      levels = record { at = λ i e k. absurd (cc) };
      level_is = refl;
      room = h ∙ sym l;
      within = omega arith;
      narrow = rw l n;
    }

pub fresh-inside : (a : Assignment) (slots : List TrailEntry) (used : ℕ) (t : Trail) (l : ℤ) → trail_of a slots used ≡ t → IsFresh t.variables (values t) l → IsFresh (length a) (values_of (length a) (take used slots)) l
fresh-inside a slots used t l e f = subst (λ (x : Trail). IsFresh x.variables (values x) l) (sym e) f

pub decided-view : (a a' : Assignment) (slots : List TrailEntry) (used level : ℕ) (l : ℤ) (t : Trail) → IsTrail a slots used level → IsFresh t.variables (values t) l → trail_of a slots used ≡ t → a' ≡ with_true a l → trail_of a' (slice_set slots used (record { lit = l; reason = None; level = level + 1 })) (used + 1) ≡ decided l t
decided-view a a' slots used level l t inv f q p =
    let lev : level + 1 ≡ suc (decisions (take used slots)) = omega (arith, inv.level_is) in
    ap (λ b. trail_of b (slice_set slots used (record { lit = l; reason = None; level = level + 1 })) (used + 1)) p
    ∙ pushed-view a slots used level (record { lit = l; reason = None; level = level + 1 }) inv (fresh-inside a slots used t l q f)
    ∙ ap (λ n. record { variables = length a; entries = take used slots ++ record { lit = l; reason = None; level = n } ∷ [] }) lev
    ∙ ap (decided l) q

pub implied-view : (a a' : Assignment) (slots : List TrailEntry) (used level : ℕ) (l : ℤ) (id : ℕ) (t : Trail) → IsTrail a slots used level → IsFresh t.variables (values t) l → trail_of a slots used ≡ t → a' ≡ with_true a l → trail_of a' (slice_set slots used (record { lit = l; reason = Some id; level = level })) (used + 1) ≡ implied l id t
implied-view a a' slots used level l id t inv f q p =
    ap (λ b. trail_of b (slice_set slots used (record { lit = l; reason = Some id; level = level })) (used + 1)) p
    ∙ pushed-view a slots used level (record { lit = l; reason = Some id; level = level }) inv (fresh-inside a slots used t l q f)
    ∙ ap (λ n. record { variables = length a; entries = take used slots ++ record { lit = l; reason = Some id; level = n } ∷ [] }) inv.level_is
    ∙ ap (implied l id) q
