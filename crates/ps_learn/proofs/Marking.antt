-- Marking causes, back over a trail.
use Rattle.std.proofs.Common.{◌≡◌, ℕ, zero, suc, ◌+◌, ◌<◌, ◌≤◌, ℤ, Bool, true, false, Option, Some, None, List, [], ◌∷◌, length, take, get_or, get_or-set_same, get_or-set_other, arith, refl, sym, ap, ◌∙◌, ◌⊎◌, inl, inr}
use Rattle.std.specs.Prelude.{slice_get, slice_set}
use Rattle.std.proofs.lemmas.List.{get_or_past}
use Rattle.std.proofs.lemmas.Option.{slice_get_within}
use Rattle.std.proofs.lemmas.Bool.{cases_eq, cases_lt}
use Rattle.ps_pb.specs.Assignments.{Assignment, place, value_of, is_unset, Includes}
use Rattle.ps_pb.specs.Constraints.{Constraint}
use Rattle.ps_pb.specs.Steps.{Known}
use Rattle.ps_learn.specs.Trails.{TrailEntry, values_of, AreFresh}
use Rattle.ps_learn.specs.Causes.{Marks, is_marked, AreCovered, IsExplained, AreExplained}
use Rattle.ps_learn.specs.Marking.{Grows, AreSetIn, AddsReason}
use Rattle.ps_pb.proofs.Values.{includes-refl, includes-trans, with_true-includes}
use Rattle.ps_pb.proofs.Setting.{unset-below, unset-same}
use Rattle.ps_learn.proofs.Entries.{values-more}

pub grows-refl : (m : Marks) → Grows m m
grows-refl m = record { at = λ l h. h }

pub grows-trans : (a b c : Marks) → Grows a b → Grows b c → Grows a c
grows-trans a b c p q = record { at = λ l h. p.at l (q.at l h) }

-- one mark more
pub marked-set : (m : Marks) (l k : ℤ) → is_marked (slice_set m (place l) true) k ≡ true → (is_marked m k ≡ true) ⊎ (place k ≡ place l)
marked-set m l k h = elim (cases_eq (place k) (place l)) [
  | inl e ↦ inr e
  | inr ne ↦ inl (sym (get_or-set_other m (place l) (place k) true false ne) ∙ h)
]

pub grows-set : (m : Marks) (l : ℤ) → Grows (slice_set m (place l) true) m
grows-set m l = record {
  at = λ k h. elim (cases_eq (place k) (place l)) [
    | inl e ↦ elim (cases_lt (place l) (length m)) [
      | inl p ↦ rw e (get_or-set_same m (place l) true false p)
      | inr p ↦ absurd (cc (h, ap (λ x. get_or m x false) e, get_or_past m (place l) false p))
    ]
    | inr ne ↦ get_or-set_other m (place l) (place k) true false ne ∙ h
  ];
}

pub own-set : (m : Marks) (l : ℤ) → place l < length m → is_marked (slice_set m (place l) true) l ≡ true
own-set m l p = get_or-set_same m (place l) true false p

some_set : (o : Option Bool) (x : Bool) → o ≡ Some x → is_unset o ≡ false
some_set None x h = absurd (cc)
some_set (Some y) x h = refl

not_unset : (a : Assignment) (l k : ℤ) (b : Bool) → place k ≡ place l → value_of a l ≡ Some false → is_unset (value_of a k) ≡ b → is_unset (value_of a k) ≡ false
not_unset a l k false q h r = r
not_unset a l k true q h r = absurd (cc (unset-same a k l (sym q) r, some_set (value_of a l) false h))

-- a false literal was set
pub set-by_reason : (known : Known) (e : TrailEntry) (a : Assignment) (new old : Marks) → AddsReason known e a new old → AreSetIn a new old
set-by_reason known e a new old h = record {
  at = λ l m. elim (h.at l m) [
    | inl was ↦ inl was
    | inr more ↦ (let f = more.1.2.false_in in inr (not_unset a f.lit l (is_unset (value_of a l)) f.same_variable f.false_is refl))
  ];
}

-- more marks cover as much
pub covered-grows : (c : Constraint) (a : Assignment) (old new : Marks) → Grows new old → AreCovered c a old → AreCovered c a new
covered-grows c a old new g h = record { at = λ l k t f. g.at l (h.at l k t f) }

pub explained-grows : (known : Known) (a : Assignment) (old new : Marks) (e : TrailEntry) → Grows new old → IsExplained known a old e → IsExplained known a new e
explained-grows known a old new e g h = record { id = h.id; constraint = h.constraint; reason = h.reason; known_at = h.known_at; covered = covered-grows h.constraint a old new g h.covered }

-- the values of an earlier part of the trail are among those of a later one
pub values-earlier : (v : ℕ) (es : List TrailEntry) (i d : ℕ) → AreFresh v es → i + d ≤ length es → Includes (values_of v (take (i + d) es)) (values_of v (take i es))
values-earlier v es i zero f h = let e : i + zero ≡ i = omega arith in rw e (includes-refl (values_of v (take i es)))
values-earlier v es i (suc d) f h =
    let r = entry_at es (i + d) (omega (arith, h)) in
    let e : i + suc d ≡ (i + d) + 1 = omega arith in
    rw e (rw (values-more v es (i + d) r.0 r.1) (includes-trans _ _ _ (with_true-includes (values_of v (take (i + d) es)) r.0.lit (f.at (i + d) r.0 r.1).unset) (values-earlier v es i d f (omega (arith, h)))))
  where
    entry_at : (es : List TrailEntry) (i : ℕ) → i < length es → (e : TrailEntry) × (slice_get es i ≡ Some e)
    entry_at [] i h = absurd (omega arith)
    entry_at (e ∷ es) zero h = (e, refl)
    entry_at (e ∷ es) (suc i) h = entry_at es i (omega (arith, h))

-- an entry's variable is unset before it
pub unset-earlier : (v : ℕ) (es : List TrailEntry) (i j : ℕ) (e : TrailEntry) → AreFresh v es → i ≤ j → slice_get es j ≡ Some e → is_unset (value_of (values_of v (take i es)) e.lit) ≡ true
unset-earlier v es i j e f h at =
    let d : (n : ℕ) × (j ≡ i + n) = difference i j h in
    let later : is_unset (value_of (values_of v (take (i + d.0) es)) e.lit) ≡ true = rw (← d.1) (f.at j e at).unset in
    unset-below (values_of v (take (i + d.0) es)) (values_of v (take i es)) e.lit (values-earlier v es i d.0 f (omega (arith, d.1, slice_get_within es j e at))) later
  where
    difference : (i j : ℕ) → i ≤ j → (n : ℕ) × (j ≡ i + n)
    difference zero j h = (j, omega arith)
    difference (suc i) zero h = absurd (omega arith)
    difference (suc i) (suc j) h = let r = difference i j (omega (arith, h)) in (r.0, omega (arith, r.1))

-- at the end nothing is to be explained
pub explained-end : (v : ℕ) (known : Known) (es : List TrailEntry) (marks kept : Marks) → AreExplained v known es marks kept (length es)
explained-end v known es marks kept = record { at = λ j e h at. absurd (past es j e h at) }
  where
    past : (es : List TrailEntry) (j : ℕ) (e : TrailEntry) → length es ≤ j → slice_get es j ≡ Some e → ⊥
    past [] j e h q = absurd (cc)
    past (x ∷ es) zero e h q = absurd (omega (arith, h))
    past (x ∷ es) (suc j) e h q = past es j e (omega (arith, h)) q

-- entries that stood behind stay explained where marks grow by what was set before, and where more is kept
later : (v : ℕ) (known : Known) (es : List TrailEntry) (marks marks' kept kept' : Marks) (i j : ℕ) (e : TrailEntry) → AreFresh v es → AreExplained v known es marks kept (suc i) → Grows marks' marks → AreSetIn (values_of v (take i es)) marks' marks → Grows kept' kept → suc i ≤ j → slice_get es j ≡ Some e → is_marked marks' e.lit ≡ true → (is_marked kept' e.lit ≡ true) ⊎ IsExplained known (values_of v (take j es)) marks' e
later v known es marks marks' kept kept' i j e f x g s k h at m = elim (s.at e.lit m) [
  | inl old ↦ elim (x.at j e h at old) [
    | inl own ↦ inl (k.at e.lit own)
    | inr by ↦ inr (explained-grows known (values_of v (take j es)) marks marks' e g by)
  ]
  | inr was ↦ absurd (cc (was, unset-earlier v es i j e f (omega (arith, h)) at))
]

-- one entry back
pub explained-next : (v : ℕ) (known : Known) (es : List TrailEntry) (marks marks' kept kept' : Marks) (i : ℕ) (e : TrailEntry) → AreFresh v es → AreExplained v known es marks kept (suc i) → slice_get es i ≡ Some e → Grows marks' marks → AreSetIn (values_of v (take i es)) marks' marks → Grows kept' kept
    → (is_marked marks e.lit ≡ true → (is_marked kept' e.lit ≡ true) ⊎ IsExplained known (values_of v (take i es)) marks' e) → AreExplained v known es marks' kept' i
explained-next v known es marks marks' kept kept' i e f x at g s k own = record {
  at = λ j d h there m. elim (cases_lt i j) [
    | inl lt ↦ later v known es marks marks' kept kept' i j d f x g s k (omega (arith, lt)) there m
    | inr ge ↦ (let q : j ≡ i = omega (arith, h, ge) in
        let r : Some d ≡ Some e = sym there ∙ ap (slice_get es) q ∙ at in
        let z : d ≡ e = cc r in
        rw (z, q) (own (elim (s.at e.lit (ap (λ (y : TrailEntry). is_marked marks' y.lit) (sym z) ∙ m)) [
          | inl old ↦ old
          | inr was ↦ absurd (cc (was, (f.at i e at).unset))
        ])))
  ];
}
