-- One entry back over the trail.
use Rattle.std.proofs.Common.{◌≡◌, ℕ, suc, ◌+◌, ◌<◌, ◌≤◌, ℤ, Bool, true, false, Some, None, List, [], ◌∷◌, ◌++◌, length, take, get_or, length-set, arith, refl, sym, ap, ◌∙◌, subst, ◌⊎◌, inl, inr}
use Rattle.std.specs.Prelude.{slice_set, unsigned_abs}
use Rattle.std.proofs.Math.Seq.{take-suc}
use Rattle.std.proofs.lemmas.List.{take_all}
use Rattle.std.proofs.lemmas.Option.{slice_get_read}
use Rattle.ps_pb.specs.Assignments.{Assignment, place, without}
use Rattle.ps_pb.specs.Constraints.{Constraint}
use Rattle.ps_pb.specs.Steps.{Known, known_of, constraint_at}
use Rattle.ps_learn.specs.Trails.{TrailEntry, Trail, values, level, values_of, AreFresh, AreLevels, AreReasons}
use Rattle.ps_learn.specs.Causes.{Marks, is_marked, AreCovered, IsCoveredAt, AreExplained, IsFalseAt}
use Rattle.ps_learn.proofs.Entries.{values-cut, fresh-take, length-values}
use Rattle.ps_learn.specs.Marking.{Grows, AddsFalseIn, AddsFalseAt, AddsReasons}
use Rattle.ps_learn.proofs.Marking.{grows-refl, grows-trans, grows-set, own-set, covered-grows, explained-end, explained-next, set-by_reason}
use Rattle.ps_learn.specs.Keeping.{IsKeptOnce, IsToExplain, HasNoReason}
use Rattle.ps_learn.proofs.Keeping.{Keeping, IsSound, keeping-first, keeping-next, MarkedBy, marked_by-first, marked_by-next}
use Rattle.ps_learn.specs.Marks.{Explains, ExplainsAt, IsCaused, IsTrailExplained}

-- how far back the marked entries have been explained
pub record Going (n : ℕ) (known : Known) (es : List TrailEntry) (first : Marks) (i : ℕ) (before : Assignment) (marks kept : Marks) : Type 0 where
  pub values : before ≡ values_of n (take i es)
  pub explained : AreExplained n known es marks kept i
  pub grows : Grows marks first
  pub only : MarkedBy n known es first marks kept i
  pub len : length marks ≡ n
  pub kept_len : length kept ≡ n
  pub within : i ≤ length es
  pub keeping : Keeping es marks kept i

pub going-first : (n : ℕ) (known : Known) (es : List TrailEntry) (i : ℕ) (before : Assignment) (marks kept : Marks) → before ≡ values_of n es → length marks ≡ n → length kept ≡ n → i ≡ length es → ((l : ℤ) → is_marked kept l ≡ false) → Going n known es marks i before marks kept
going-first n known es i before marks kept v l k e un = record {
  keeping = keeping-first es marks kept i un;
  values = v ∙ ap (values_of n) (sym (take_all i es (omega (arith, e))));
  explained = rw e (explained-end n known es marks kept);
  grows = grows-refl marks;
  only = marked_by-first n known es marks kept i;
  len = l;
  kept_len = k;
  within = omega (arith, e);
}

back_values : (n : ℕ) (es : List TrailEntry) (j : ℕ) (e : TrailEntry) (before : Assignment) → AreFresh n es → before ≡ values_of n (take (suc j) es) → j < length es → e ≡ get_or es j e → without before (unsigned_abs e.lit) ≡ values_of n (take j es)
back_values n es j e before f v lt at =
    let q : take (suc j) es ≡ take j es ++ e ∷ [] = take-suc es j e lt ∙ ap (λ d. take j es ++ d ∷ []) (sym at) in
    rw (v, q) (values-cut n (take j es) e (rw (← q) (fresh-take n es (suc j) f)))

-- one entry back
pub going-back : (n : ℕ) (known : Known) (es : List TrailEntry) (first : Marks) (i j : ℕ) (e : TrailEntry) (before : Assignment) (marks kept : Marks) → AreFresh n es → Going n known es first i before marks kept → j + 1 ≡ i → e ≡ get_or es j e → without before (unsigned_abs e.lit) ≡ values_of n (take j es)
going-back n known es first i j e before marks kept f g q at =
    let s : i ≡ suc j = omega (arith, q) in
    back_values n es j e before f (rw s at g.values) (omega (arith, q, g.within)) at

pub going-len : (n : ℕ) (known : Known) (es : List TrailEntry) (first : Marks) (i j : ℕ) (e : TrailEntry) (before : Assignment) (marks kept : Marks) → AreFresh n es → Going n known es first i before marks kept → j + 1 ≡ i → e ≡ get_or es j e → length marks ≡ length (without before (unsigned_abs e.lit))
going-len n known es first i j e before marks kept f g q at = g.len ∙ sym (length-values n (take j es)) ∙ ap length (sym (going-back n known es first i j e before marks kept f g q at))

pub going-place : (n : ℕ) (known : Known) (es : List TrailEntry) (first : Marks) (i j : ℕ) (e : TrailEntry) (before : Assignment) (marks kept : Marks) → AreFresh n es → Going n known es first i before marks kept → j + 1 ≡ i → e ≡ get_or es j e → place e.lit < length kept
going-place n known es first i j e before marks kept f g q at = rw g.kept_len (f.at j e (slice_get_read es (length es) j e refl (omega (arith, q, g.within)) at)).within

pub going-next : (cs : List Constraint) (t : Trail) (first : Marks) (i j : ℕ) (e : TrailEntry) (before before' : Assignment) (marks kept marks' kept' : Marks) → IsSound t.variables (known_of cs) t.entries → Going t.variables (known_of cs) t.entries first i before marks kept → j + 1 ≡ i → e ≡ get_or t.entries j e
    → before' ≡ without before (unsigned_abs e.lit) → ExplainsAt cs t j e (marks, kept) (marks', kept') → Going t.variables (known_of cs) t.entries first j before' marks' kept'
going-next cs t first i j e before before' marks kept marks' kept' sound g q at b xs =
    let n = t.variables in
    let es = t.entries in
    let x = xs.done in
    let s : i ≡ suc j = omega (arith, q) in
    let there = slice_get_read es (length es) j e refl (omega (arith, q, g.within)) at in
    let set = set-by_reason (known_of cs) e (values_of n (take j es)) marks' marks x.only in
    record {
      values = b ∙ going-back n (known_of cs) es first i j e before marks kept sound.fresh g q at;
      explained = explained-next n (known_of cs) es marks marks' kept kept' j e sound.fresh (rw s at g.explained) there x.grows set x.keeps x.own;
      grows = grows-trans marks' marks first x.grows g.grows;
      only = marked_by-next n (known_of cs) es first marks kept marks' kept' j e xs.asked sound.fresh there (rw s at g.keeping) x.grows (rw s at g.only) x.only x.kept_is;
      len = x.len ∙ g.len;
      kept_len = x.kept_len ∙ g.kept_len;
      within = omega (arith, q, g.within);
      keeping = keeping-next n (known_of cs) es marks kept marks' kept' j e xs.asked sound there (rw s at g.keeping) xs.test x.grows set x.kept_is;
    }

-- the facts of a trail
pub sound : (known : Known) (t : Trail) → AreFresh t.variables t.entries → AreLevels t.entries → AreReasons t.variables known t.entries → IsSound t.variables known t.entries
sound known t f l r = record { fresh = f; levels = l; reasons = r }

pub going-start : (known : Known) (t : Trail) (es : List TrailEntry) (i : ℕ) (before : Assignment) (marks kept : Marks) → before ≡ values t → length marks ≡ length before → length kept ≡ length before → es ≡ t.entries → i ≡ length es → ((l : ℤ) → is_marked kept l ≡ false) → Going t.variables known t.entries marks i before marks kept
going-start known t es i before marks kept v l k r e un =
    let n : length before ≡ t.variables = ap length v ∙ length-values t.variables t.entries in
    going-first t.variables known t.entries i before marks kept v (l ∙ n) (k ∙ n) (e ∙ ap length r) un

-- the marked entry is kept
pub kept_explains : (cs : List Constraint) (e : TrailEntry) (b : Bool) (before : Assignment) (marks kept kept' : Marks) → kept' ≡ slice_set kept (place e.lit) true → place e.lit < length kept → is_marked marks e.lit ≡ true → (b ≡ false) ⊎ HasNoReason (known_of cs) e → Explains cs e b before (marks, kept) (marks, kept')
kept_explains cs e b before marks kept kept' q p m why = rw q (record {
  grows = grows-refl marks;
  only = record { at = λ l m. inl m };
  keeps = grows-set kept e.lit;
  len = refl;
  kept_len = length-set kept (place e.lit) true;
  own = λ m. inl (own-set kept e.lit p);
  kept_is = inr (refl, refl, m, why);
})

-- an entry that isn't marked
pub unmarked_explains : (cs : List Constraint) (t : Trail) (i : ℕ) (e : TrailEntry) (marks kept : Marks) (b : Bool) → b ≡ is_marked marks e.lit → b ≡ false → ExplainsAt cs t i e (marks, kept) (marks, kept)
unmarked_explains cs t i e marks kept b q f = record {
  asked = false;
  test = λ m. absurd (cc (q, f, m));
  done = record {
    grows = grows-refl marks;
    only = record { at = λ l m. inl m };
    keeps = grows-refl kept;
    len = refl;
    kept_len = refl;
    own = λ m. absurd (cc (q, f, m));
    kept_is = inl (refl, inl refl);
  };
}

-- an entry that is kept, since it isn't to be explained
pub kept_explains_at : (cs : List Constraint) (t : Trail) (i : ℕ) (e : TrailEntry) (marks kept kept' : Marks) (m b : Bool) → m ≡ is_marked marks e.lit → m ≡ true → IsToExplain (level t) t.entries marks i e b → b ≡ false → kept' ≡ slice_set kept (place e.lit) true → place e.lit < length kept → ExplainsAt cs t i e (marks, kept) (marks, kept')
kept_explains_at cs t i e marks kept kept' m b q y to f is p = record {
  asked = b;
  test = λ _. to;
  done = kept_explains cs e b (values_of t.variables (take i t.entries)) marks kept kept' is p (sym q ∙ y) (inl f);
}

-- an entry that is explained where it has a reason
pub asked_explains_at : (cs : List Constraint) (t : Trail) (i : ℕ) (e : TrailEntry) (before : Assignment) (marks kept marks' kept' : Marks) (b : Bool) → before ≡ values_of t.variables (take i t.entries) → IsToExplain (level t) t.entries marks i e b → b ≡ true → Explains cs e true before (marks, kept) (marks', kept') → ExplainsAt cs t i e (marks, kept) (marks', kept')
asked_explains_at cs t i e before marks kept marks' kept' b v to y x = record {
  asked = true;
  test = λ _. subst (λ c. IsToExplain (level t) t.entries marks i e c) y to;
  done = subst (λ a. Explains cs e true a (marks, kept) (marks', kept')) v x;
}

no_id : (known : Known) (e : TrailEntry) → e.reason ≡ None → HasNoReason known e
no_id known e n id q = absurd (cc (n, q))

-- a decided entry is kept
pub decided_explains : (cs : List Constraint) (e : TrailEntry) (before : Assignment) (marks kept kept' : Marks) → kept' ≡ slice_set kept (place e.lit) true → place e.lit < length kept → is_marked marks e.lit ≡ true → e.reason ≡ None → Explains cs e true before (marks, kept) (marks, kept')
decided_explains cs e before marks kept kept' q p m n = kept_explains cs e true before marks kept kept' q p m (inr (no_id (known_of cs) e n))

-- and one whose reason isn't known
pub unknown_explains : (cs : List Constraint) (e : TrailEntry) (before : Assignment) (marks kept kept' : Marks) (id : ℕ) → kept' ≡ slice_set kept (place e.lit) true → place e.lit < length kept → is_marked marks e.lit ≡ true → e.reason ≡ Some id → constraint_at (known_of cs) id ≡ None → Explains cs e true before (marks, kept) (marks, kept')
unknown_explains cs e before marks kept kept' id q p m r n = kept_explains cs e true before marks kept kept' q p m (inr (λ j s. (let z : Some j ≡ Some id = sym s ∙ r in let y : j ≡ id = cc z in rw y n)))

-- the entry's reason explains it
pub reason_explains : (cs : List Constraint) (e : TrailEntry) (before : Assignment) (marks marks' kept : Marks) (id : ℕ) (c : Constraint) → e.reason ≡ Some id → constraint_at (known_of cs) id ≡ Some c → AreCovered c before marks' → Grows marks' marks → AddsFalseIn c.terms before marks' marks → length marks' ≡ length marks → is_marked marks e.lit ≡ true → Explains cs e true before (marks, kept) (marks', kept)
reason_explains cs e before marks marks' kept id c r k cov g s l m = record {
  grows = g;
  only = record {
    at = λ l now. elim (s.at l now) [
      | inl was ↦ inl was
      | inr f ↦ inr (m, (id, r, record { constraint = c; known_at = k; false_in = f }))
    ];
  };
  keeps = grows-refl kept;
  len = l;
  kept_len = refl;
  own = λ m. inr (record { id = id; constraint = c; reason = r; known_at = k; covered = cov });
  kept_is = inl (refl, inr m);
}

pub is_caused : (known : Known) (t : Trail) (conflict : ℕ) (a : Assignment) (none first marks kept : Marks) → a ≡ values t → IsTrailExplained known t marks kept → Grows marks first → IsCoveredAt known conflict a first → IsKeptOnce t kept → ((l : ℤ) → is_marked none l ≡ false) → AddsFalseAt known conflict a first none → AddsReasons t.variables known t.entries kept marks first → IsCaused known t conflict marks kept
is_caused known t conflict a none first marks kept q x g cov once un own more = record {
  explained = x;
  covered = λ c k. covered-grows c (values t) first marks g (subst (λ b. AreCovered c b first) q (cov c k));
  once = once;
  only = λ l m. elim (more.at l m) [
    | inr r ↦ inr r
    | inl early ↦ elim (own.at l early) [
      | inl was ↦ absurd (cc (was, un l))
      | inr f ↦ inl (subst (λ b. IsFalseAt known conflict b l) q f)
    ]
  ];
}

-- what the conflict marks
pub adds_at : (known : Known) (conflict : ℕ) (d : Constraint) (a : Assignment) (new old : Marks) → constraint_at known conflict ≡ Some d → AddsFalseIn d.terms a new old → AddsFalseAt known conflict a new old
adds_at known conflict d a new old k h = record {
  at = λ l m. elim (h.at l m) [
    | inl was ↦ inl was
    | inr f ↦ inr (record { constraint = d; known_at = k; false_in = f })
  ];
}

pub adds_none : (known : Known) (conflict : ℕ) (a : Assignment) (marks : Marks) → AddsFalseAt known conflict a marks marks
adds_none known conflict a marks = record { at = λ l m. inl m }

-- the conflict's causes are covered
pub one_covered : (known : Known) (conflict : ℕ) (d : Constraint) (a : Assignment) (marks : Marks) → constraint_at known conflict ≡ Some d → AreCovered d a marks → (c : Constraint) → constraint_at known conflict ≡ Some c → AreCovered c a marks
one_covered known conflict d a marks k cov c h = let z : Some d ≡ Some c = sym k ∙ h in let same : d ≡ c = cc z in subst (λ x. AreCovered x a marks) same cov

pub going-end : (n : ℕ) (known : Known) (t : Trail) (first : Marks) (i : ℕ) (before : Assignment) (marks kept : Marks) → n ≡ t.variables → Going n known t.entries first i before marks kept → i ≤ 0 → IsTrailExplained known t marks kept
going-end n known t first i before marks kept q g h = let z : i ≡ 0 = omega (arith, h) in subst (λ m. AreExplained m known t.entries marks kept 0) q (subst (λ k. AreExplained n known t.entries marks kept k) z g.explained)

pub whole : (xs rest : Marks) (n : ℕ) → n ≡ length xs → take n (xs ++ rest) ≡ xs
whole xs rest n e = rw e (all_of xs rest)
  where
    all_of : (xs rest : Marks) → take (length xs) (xs ++ rest) ≡ xs
    all_of [] rest = refl
    all_of (x ∷ xs) rest = ap (λ r. x ∷ r) (all_of xs rest)

pub caused-whole : (known : Known) (t : Trail) (conflict : ℕ) (xs xr ys yr : Marks) (n m : ℕ) → n ≡ length xs → m ≡ length ys → IsCaused known t conflict xs ys → IsCaused known t conflict (take n (xs ++ xr)) (take m (ys ++ yr))
caused-whole known t conflict xs xr ys yr n m p q h = rw (whole xs xr n p, whole ys yr m q) h
