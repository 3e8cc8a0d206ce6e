-- One step of each loop.
use Rattle.std.proofs.Common.{◌≡◌, ◌≢◌, ℕ, zero, suc, ◌+◌, ◌<◌, ◌≤◌, ℤ, Bool, true, false, Option, Some, None, List, [], ◌∷◌, ◌++◌, length, length-append, take, get_or, length-set, arith, refl, sym, ap, ◌∙◌, subst, ◌⊎◌, inl, inr}
use Rattle.std.specs.Prelude.{slice_get, slice_set, unsigned_abs}
use Rattle.std.specs.List.{All}
use Rattle.std.proofs.lemmas.List.Elements.{All-push}
use Rattle.std.proofs.lemmas.Option.{slice_get_read}
use Rattle.std.proofs.lemmas.Bool.{cases_lt}
use Rattle.std.proofs.lemmas.List.{get_or_default, get_or_past}
use Rattle.ps_pb.specs.Assignments.{Assignment, place, value_of, all_unset}
use Rattle.ps_pb.specs.Constraints.{Constraint, HasTerm, Forces, is_violated}
use Rattle.ps_pb.specs.Weights.{Weighted, terms_of}
use Rattle.ps_pb.specs.Steps.{Known, known_of, constraint_at, Open, Conflict, after_hints}
use Rattle.ps_learn.specs.Trails.{TrailEntry, Trail, values_of, IsReason, AreFresh, AreLevels, AreReasons, IsConflict}
use Rattle.ps_learn.specs.Causes.{Marks, is_marked, AreCovered, IsExplained}
use Rattle.ps_pb.proofs.Values.{signed-some}
use Rattle.ps_pb.proofs.Setting.{rising-distinct}
use Rattle.ps_pb.proofs.Searched.{has_term-at}
use Rattle.ps_learn.specs.Starting.{Started}
use Rattle.ps_learn.proofs.Starting.{started-none, started-skip, started-keep}
use Rattle.ps_learn.proofs.Asserting.{Asserted, asserted-none, asserted-skip, asserted-keep}
use Rattle.ps_learn.specs.Keeping.{IsKeptOnce}
use Rattle.ps_learn.proofs.Following.{Followed, followed-unmarked, followed-true, followed-violated, followed-forced, followed-idle, followed-end, known-id, IsKnownId}
use Rattle.ps_learn.specs.Marking.{Grows, AddsFalseIn}
use Rattle.ps_learn.proofs.Marking.{grows-refl, grows-trans, marked-set, grows-set, own-set}
use Rattle.ps_learn.specs.Marks.{MarksCause, IsReached}
use Rattle.ps_learn.specs.Drawing.{AddsIf, AddsKept, Passes, EndsInConflict}
use Rattle.ps_learn.specs.declared.learning.Kept.{Kept}
use Rattle.ps_pb.specs.declared.propagation.Effect.TheVariants as effect
use Rattle.ps_learn.specs.declared.learning.Followed.TheVariants as v

-- the first terms are covered
pub record CoveredIn (ts : Weighted) (n : ℕ) (a : Assignment) (marks : Marks) : Type 0 where
  pub at : (i : ℕ) (t : ℤ × ℤ) → i < n → i < length ts → t ≡ get_or ts i t → value_of a t.0 ≡ Some false → is_marked marks t.0 ≡ true

covered_next : (ts : Weighted) (n : ℕ) (t : ℤ × ℤ) (a : Assignment) (old new : Marks) → CoveredIn ts n a old → n < length ts → t ≡ get_or ts n t → Grows new old → (value_of a t.0 ≡ Some false → is_marked new t.0 ≡ true) → CoveredIn ts (n + 1) a new
covered_next ts n t a old new c h at g own = record {
  at = λ i u k len q f. elim (cases_lt i n) [
    | inl lt ↦ g.at u.0 (c.at i u lt len q f)
    | inr ge ↦ (let e : i ≡ n = omega (arith, k, ge) in let z : u ≡ t = q ∙ ap (λ x. get_or ts x u) e ∙ get_or_default ts n u t h ∙ sym at in rw z (own (ap (λ (x : ℤ × ℤ). value_of a x.0) (sym z) ∙ f)))
  ];
}

place_in : (ts : Weighted) (l : ℤ) (k : ℕ) → HasTerm l k (terms_of ts) → (i : ℕ) × (t : ℤ × ℤ) × (i < length ts) × (t ≡ get_or ts i t) × (t.0 ≡ l)
place_in [] l k h = absurd h
place_in (t ∷ ts) l k (inl e) = (zero, t, omega arith, refl, e.0)
place_in (t ∷ ts) l k (inr h) = let r = place_in ts l k h in (suc r.0, r.1, omega (arith, r.2), r.3, r.4)

pub covered_all : (c : Constraint) (ts : Weighted) (n : ℕ) (a : Assignment) (marks : Marks) → terms_of ts ≡ c.terms → CoveredIn ts n a marks → length ts ≤ n → AreCovered c a marks
covered_all c ts n a marks e h p = record {
  at = λ l k m f.
      let r = place_in ts l k (subst (λ us. HasTerm l k us) (sym e) m) in
      let same = r.4 in
      subst (λ x. is_marked marks x ≡ true) same (h.at r.0 r.1 (omega (arith, p, r.2)) r.2 r.3 (ap (value_of a) same ∙ f));
}

-- how far the causes have been marked
pub record Marking (ts : Weighted) (n : ℕ) (before : Assignment) (first marks : Marks) : Type 0 where
  pub covered : CoveredIn ts n before marks
  pub grows : Grows marks first
  pub only : AddsFalseIn (terms_of ts) before marks first
  pub len : length marks ≡ length before

set_within : (a : Assignment) (l : ℤ) (x : Bool) → value_of a l ≡ Some x → place l < length a
unfolding value_of
set_within a l x h = elim (cases_lt (place l) (length a)) [
  | inl p ↦ p
  | inr p ↦ absurd (let s = signed-some _ _ _ h in cc (s.1, get_or_past a (place l) None p))
]

pub marking-none : (ts : Weighted) (before : Assignment) (marks : Marks) → length marks ≡ length before → Marking ts 0 before marks marks
marking-none ts before marks h = record { covered = record { at = λ i t k. absurd (omega (arith, k)) }; grows = grows-refl marks; only = record { at = λ l m. inl m }; len = h }

by_value : (ts : Weighted) (n : ℕ) (t : ℤ × ℤ) (before : Assignment) (first marks marks' : Marks) (o : Option Bool) → value_of before t.0 ≡ o → Marking ts n before first marks → n < length ts → t ≡ get_or ts n t → MarksCause o t.0 marks marks' → Marking ts (n + 1) before first marks'
by_value ts n t before first marks marks' None e m h at adds = subst (λ x. Marking ts (n + 1) before first x) (sym adds) (record {
  covered = covered_next ts n t before marks marks m.covered h at (grows-refl marks) (λ q. absurd (cc (q, e)));
  grows = m.grows;
  only = m.only;
  len = m.len;
})
by_value ts n t before first marks marks' (Some true) e m h at adds = subst (λ x. Marking ts (n + 1) before first x) (sym adds) (record {
  covered = covered_next ts n t before marks marks m.covered h at (grows-refl marks) (λ q. absurd (cc (q, e)));
  grows = m.grows;
  only = m.only;
  len = m.len;
})
by_value ts n t before first marks marks' (Some false) e m h at adds = subst (λ x. Marking ts (n + 1) before first x) (sym adds) (
    let new = slice_set marks (place t.0) true in
    let own : is_marked new t.0 ≡ true = own-set marks t.0 (rw m.len (set_within before t.0 false e)) in
    record {
      covered = covered_next ts n t before marks new m.covered h at (grows-set marks t.0) (λ q. own);
      grows = grows-trans new marks first (grows-set marks t.0) m.grows;
      only = record {
        at = λ l k. elim (marked-set marks t.0 l k) [
          | inl old ↦ m.only.at l old
          | inr here ↦ inr (record { lit = t.0; coefficient = unsigned_abs t.1; term = has_term-at ts n t h at; false_is = e; same_variable = here })
        ];
      };
      len = length-set marks (place t.0) true ∙ m.len;
    })

pub marking-next : (ts : Weighted) (n : ℕ) (t : ℤ × ℤ) (before : Assignment) (first marks marks' : Marks) → Marking ts n before first marks → n < length ts → t ≡ get_or ts n t → MarksCause (value_of before t.0) t.0 marks marks' → Marking ts (n + 1) before first marks'
marking-next ts n t before first marks marks' m h at adds = by_value ts n t before first marks marks' (value_of before t.0) refl m h at adds

-- how far the kept literals have come
pub record Drawn (t : Trail) (marks : Marks) (i : ℕ) (k : Kept) (a : Assignment) : Type 0 where
  pub started : Started t.variables t.entries marks i k.lits a
  pub asserted : Asserted t marks i k.lits k.last k.next

pub drawn-none : (t : Trail) (marks : Marks) (k : Kept) (a : Assignment) → k.lits ≡ [] → k.last ≡ 0 → k.next ≡ 0 → a ≡ all_unset t.variables → Drawn t marks 0 k a
drawn-none t marks k a l z n u = record {
  started = rw (l, u) (started-none t.variables t.entries marks);
  asserted = rw (l, z, n) (asserted-none t marks);
}

by_mark : (t : Trail) (marks : Marks) (i : ℕ) (k k' : Kept) (a a' : Assignment) (e : TrailEntry) (b : Bool) → is_marked marks e.lit ≡ b → AreFresh t.variables t.entries → AreLevels t.entries → IsKeptOnce t marks → Drawn t marks i k a → slice_get t.entries i ≡ Some e → AddsIf b e k a k' a' → Drawn t marks (i + 1) k' a'
by_mark t marks i k k' a a' e false m f g o d q adds = subst (λ x. Drawn t marks (i + 1) x a') (sym adds.0) (subst (λ x. Drawn t marks (i + 1) k x) (sym adds.1) (record {
  started = started-skip t.variables t.entries marks i k.lits a e f d.started q m;
  asserted = asserted-skip t marks i k.lits k.last k.next d.asserted;
}))
by_mark t marks i k k' a a' e true m f g o d q adds = record {
  started = rw (adds.0, adds.3) (started-keep t.variables t.entries marks i k.lits a e f d.started q m);
  asserted = rw (adds.0, adds.1, adds.2) (asserted-keep t marks i k.lits k.last k.next e f g o d.asserted q m);
}

-- one entry more of the kept literals
pub drawn-next : (t : Trail) (es : List TrailEntry) (marks : Marks) (i : ℕ) (k k' : Kept) (a a' : Assignment) (e : TrailEntry) → es ≡ t.entries → AreFresh t.variables t.entries → AreLevels t.entries → IsKeptOnce t marks → Drawn t marks i k a → i < length es → e ≡ get_or es i e → AddsKept e marks k a k' a' → Drawn t marks (i + 1) k' a'
drawn-next t es marks i k k' a a' e r f g o d h at adds = by_mark t marks i k k' a a' e (is_marked marks e.lit) refl f g o d (rw r at (slice_get_read es (length es) i e refl h at)) adds

-- what the reasons are gone along with
pub record Along (n : ℕ) (known : Known) (es : List TrailEntry) (marks : Marks) (start : Assignment) : Type 0 where
  pub fresh : AreFresh n es
  pub reasons : AreReasons n known es
  pub explained : (i : ℕ) (e : TrailEntry) → slice_get es i ≡ Some e → is_marked marks e.lit ≡ true → (value_of start e.lit ≡ Some true) ⊎ IsExplained known (values_of n (take i es)) marks e

pub along : (known : Known) (t : Trail) (conflict : ℕ) (marks : Marks) (start : Assignment) → AreFresh t.variables t.entries → AreReasons t.variables known t.entries → IsReached known t conflict marks start → Along t.variables known t.entries marks start
along known t conflict marks start f r c = record { fresh = f; reasons = r; explained = c.explained }

-- a marked entry that isn't true yet is explained
pub open_explained : (n : ℕ) (known : Known) (es : List TrailEntry) (marks : Marks) (start : Assignment) (i : ℕ) (hints : List ℕ) (a : Assignment) (e : TrailEntry) → Along n known es marks start → Followed n known es marks start i hints a → slice_get es i ≡ Some e → is_marked marks e.lit ≡ true → value_of a e.lit ≢ Some true → IsExplained known (values_of n (take i es)) marks e
open_explained n known es marks start i hints a e al f q m ne = elim (al.explained i e q m) [
  | inl k ↦ absurd (ne (f.from.at e.lit true k))
  | inr x ↦ x
]

reason_forces : (known : Known) (before a : Assignment) (marks : Marks) (e : TrailEntry) (id : ℕ) (c : Constraint) → e.reason ≡ Some id → constraint_at known id ≡ Some c → IsReason known before e.lit e.reason → Forces c before e.lit
reason_forces known before a marks e id c r k h =
    let s = subst (λ x. IsReason known before e.lit x) r h in
    let same : s.0 ≡ c = cc (s.1, k) in
    subst (λ x. Forces x before e.lit) same s.2

explained_by : (known : Known) (before : Assignment) (marks : Marks) (e : TrailEntry) (id : ℕ) (c : Constraint) → e.reason ≡ Some id → constraint_at known id ≡ Some c → IsExplained known before marks e → AreCovered c before marks
explained_by known before marks e id c r k x =
    let one : Some x.id ≡ Some id = sym x.reason ∙ r in
    let same_id : x.id ≡ id = cc one in
    let two : Some x.constraint ≡ Some c = sym x.known_at ∙ ap (constraint_at known) same_id ∙ k in
    let same : x.constraint ≡ c = cc two in
    subst (λ y. AreCovered y before marks) same x.covered

-- the reason of a marked entry that isn't true yet forced it, and its false literals are marked
reason_shown : (n : ℕ) (known : Known) (es : List TrailEntry) (marks : Marks) (start : Assignment) (i : ℕ) (hints : List ℕ) (a : Assignment) (e : TrailEntry) (id : ℕ) (c : Constraint) → Along n known es marks start → Followed n known es marks start i hints a → slice_get es i ≡ Some e → is_marked marks e.lit ≡ true → value_of a e.lit ≢ Some true
    → e.reason ≡ Some id → constraint_at known id ≡ Some c → Forces c (values_of n (take i es)) e.lit × AreCovered c (values_of n (take i es)) marks
reason_shown n known es marks start i hints a e id c al f q m ne r k =
    let before = values_of n (take i es) in (
      reason_forces known before a marks e id c r k (al.reasons.at i e q),
      explained_by known before marks e id c r k (open_explained n known es marks start i hints a e al f q m ne),
    )

-- one entry more of the reasons
pub followed-next : (n : ℕ) (cs : List Constraint) (es : List TrailEntry) (marks : Marks) (start : Assignment) (i : ℕ) (hints : List ℕ) (a : Assignment) (e : TrailEntry) (hints' : List ℕ) (a' : Assignment) (r : v.the_data) → Along n (known_of cs) es marks start → Followed n (known_of cs) es marks start i hints a → i < length es → e ≡ get_or es i e → Passes cs e marks (hints, a) (hints', a') r → r ≢ v.Propagated effect.Violated → Followed n (known_of cs) es marks start (i + 1) hints' a'
followed-next n cs es marks start i hints a e hints' a' v.Unmarked al f h at fol ne =
    let q = slice_get_read es (length es) i e refl h at in
    subst (λ x. Followed n (known_of cs) es marks start (i + 1) x a') (sym fol.1) (subst (λ x. Followed n (known_of cs) es marks start (i + 1) hints x) (sym fol.2) (followed-unmarked n (known_of cs) es marks start i hints a e al.fresh f q fol.0))
followed-next n cs es marks start i hints a e hints' a' v.AlreadyTrue al f h at fol ne =
    let q = slice_get_read es (length es) i e refl h at in
    subst (λ x. Followed n (known_of cs) es marks start (i + 1) x a') (sym fol.1) (subst (λ x. Followed n (known_of cs) es marks start (i + 1) hints x) (sym fol.2) (followed-true n (known_of cs) es marks start i hints a e al.fresh f q fol.0))
followed-next n cs es marks start i hints a e hints' a' v.Decided al f h at fol ne =
    let q = slice_get_read es (length es) i e refl h at in
    let x = open_explained n (known_of cs) es marks start i hints a e al f q fol.0 fol.1 in
    absurd (cc (x.reason, fol.2))
followed-next n cs es marks start i hints a e hints' a' v.Unknown al f h at fol ne =
    let q = slice_get_read es (length es) i e refl h at in
    let u = fol.1 in
    let s = subst (λ x. IsReason (known_of cs) (values_of n (take i es)) e.lit x) u.1 (al.reasons.at i e q) in
    absurd (cc (s.1, u.2))
followed-next n cs es marks start i hints a e hints' a' (v.Propagated effect.Violated) al f h at fol ne = absurd (ne refl)
followed-next n cs es marks start i hints a e hints' a' (v.Propagated effect.Forced) al f h at fol ne =
    let q = slice_get_read es (length es) i e refl h at in
    let b = fol.1 in
    let c = b.constraint in
    let shown = reason_shown n (known_of cs) es marks start i hints a e b.id c al f q fol.0 b.other b.reason b.known_at in
    let does = b.does in
    subst (λ x. Followed n (known_of cs) es marks start (i + 1) x a') (sym b.hints_are)
    (subst (λ x. Followed n (known_of cs) es marks start (i + 1) (hints ++ b.id ∷ []) x) (sym does.2)
    (followed-forced n (known_of cs) es marks start i hints a e b.id c al.fresh f q b.known_at shown.1 shown.0 (rising-distinct 0 c.terms b.normal.rising) does.0 b.other))
followed-next n cs es marks start i hints a e hints' a' (v.Propagated effect.Idle) al f h at fol ne =
    let q = slice_get_read es (length es) i e refl h at in
    let b = fol.1 in
    let shown = reason_shown n (known_of cs) es marks start i hints a e b.id b.constraint al f q fol.0 b.other b.reason b.known_at in
    let does = b.does in
    absurd (followed-idle n (known_of cs) es marks start i hints a e.lit b.constraint f shown.1 shown.0 does.0 b.other does.1)

ended : (known : Known) (start : Assignment) (most i : ℕ) (hints hints' : List ℕ) (id : ℕ) (c : Constraint) → hints' ≡ hints ++ id ∷ [] → after_hints known (Open start) (hints ++ id ∷ []) ≡ Conflict → length hints ≤ i → i ≤ most → All (IsKnownId known) hints → constraint_at known id ≡ Some c → EndsInConflict known start most hints'
ended known start most i hints hints' id c e x few m ids k = rw e (record {
  ends = x;
  few = omega (arith, few, m, length-append hints (id ∷ []));
  known_ids = All-push (IsKnownId known) hints id ids (known-id known id c k);
})

-- a reason that is violated ends the propagation
pub followed-stop : (n : ℕ) (cs : List Constraint) (es : List TrailEntry) (marks : Marks) (start : Assignment) (i : ℕ) (hints : List ℕ) (a : Assignment) (e : TrailEntry) (hints' : List ℕ) (a' : Assignment) (r : v.the_data) → Followed n (known_of cs) es marks start i hints a → i ≤ length es → Passes cs e marks (hints, a) (hints', a') r → r ≡ v.Propagated effect.Violated → EndsInConflict (known_of cs) start (length es) hints'
followed-stop n cs es marks start i hints a e hints' a' r f m fol is =
    let b = (subst (λ x. Passes cs e marks (hints, a) (hints', a') x) is fol).1 in
    ended (known_of cs) start (length es) i hints hints' b.id b.constraint b.hints_are (followed-violated (known_of cs) start a hints b.id b.constraint f.going b.known_at b.does.0) f.few m f.ids b.known_at

-- at the end the conflict ends the propagation
pub followed-conflict : (n : ℕ) (known : Known) (t : Trail) (marks : Marks) (start : Assignment) (i : ℕ) (hints hints' : List ℕ) (a : Assignment) (id : ℕ) → n ≡ t.variables → IsReached known t id marks start → Followed n known t.entries marks start i hints a → length t.entries ≤ i → i ≤ length t.entries → IsConflict known (values_of t.variables t.entries) id → hints' ≡ hints ++ id ∷ [] → EndsInConflict known start (length t.entries) hints'
followed-conflict n known t marks start i hints hints' a id e reached f h m x is =
    let covered = reached.covered x.constraint x.known_at in
    ended known start (length t.entries) i hints hints' id x.constraint is
    (followed-end n known t.entries marks start i hints a id x.constraint f h x.known_at (subst (λ v. is_violated x.constraint (values_of v t.entries) ≡ true) (sym e) x.violated) (subst (λ v. AreCovered x.constraint (values_of v t.entries) marks) (sym e) covered)) f.few m f.ids x.known_at
