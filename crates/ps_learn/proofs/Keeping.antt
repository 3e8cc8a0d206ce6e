-- Of the last level at most one entry is kept.
use Rattle.std.proofs.Common.{◌≡◌, ℕ, suc, ◌+◌, ◌<◌, ◌≤◌, ℤ, Bool, true, false, cond, Option, Some, None, List, take, arith, refl, sym, ap, ◌∙◌, subst, ◌⊎◌, inl, inr}
use Rattle.std.specs.Prelude.{slice_get, slice_set, slice_index_or, is_none}
use Rattle.std.proofs.lemmas.Bool.{cases_lt}
use Rattle.ps_pb.specs.Assignments.{Assignment, place, value_of, is_unset}
use Rattle.ps_pb.specs.Steps.{Known}
use Rattle.ps_learn.specs.Trails.{TrailEntry, Trail, values_of, decisions, IsReason, AreFresh, AreLevels, AreReasons}
use Rattle.ps_learn.specs.Causes.{Marks, is_marked, IsFalseInReason}
use Rattle.ps_learn.specs.Marking.{Grows, AreSetIn, AddsReason, AddsReasons}
use Rattle.ps_learn.specs.Keeping.{IsKeptOnce, IsToExplain, HasNoReason, IsKeptOrNot}
use Rattle.ps_learn.proofs.Levels.{levels-rise, decisions-more}
use Rattle.ps_learn.proofs.Marking.{grows-trans, marked-set, unset-earlier}
use Rattle.ps_learn.proofs.TrailDistinct.{same-place, other-place, decisions-next, level-most}

-- how far back entries have been kept
pub record Keeping (es : List TrailEntry) (marks kept : Marks) (i : ℕ) : Type 0 where
  pub above : (j : ℕ) (e : TrailEntry) → slice_get es j ≡ Some e → is_marked kept e.lit ≡ true → 1 ≤ e.level
  pub none : (j k : ℕ) (e d : TrailEntry) → k < j → slice_get es j ≡ Some e → slice_get es k ≡ Some d → e.level ≡ decisions es → d.level ≡ decisions es → is_marked kept e.lit ≡ true → is_marked marks d.lit ≡ false
  pub unkept : (k : ℕ) (d : TrailEntry) → k < i → slice_get es k ≡ Some d → is_marked kept d.lit ≡ false
  pub in_marks : Grows marks kept

-- the facts of a trail
pub record IsSound (v : ℕ) (known : Known) (es : List TrailEntry) : Type 0 where
  pub fresh : AreFresh v es
  pub levels : AreLevels es
  pub reasons : AreReasons v known es

-- nothing is kept at first
pub keeping-first : (es : List TrailEntry) (marks kept : Marks) (i : ℕ) → ((l : ℤ) → is_marked kept l ≡ false) → Keeping es marks kept i
keeping-first es marks kept i h = record {
  above = λ j e q m. absurd (cc (m, h e.lit));
  none = λ j k e d lt p q a b m. absurd (cc (m, h e.lit));
  unkept = λ k d lt q. h d.lit;
  in_marks = record { at = λ l m. absurd (cc (m, h l)) };
}

-- at the end one is kept
pub keeping-end : (t : Trail) (es : List TrailEntry) (marks kept : Marks) (i : ℕ) → es ≡ t.entries → Keeping es marks kept i → IsKeptOnce t kept
keeping-end t es marks kept i e k = subst (λ xs. IsKeptOnce (record { variables = t.variables; entries = xs }) kept) e (record {
  above = k.above;
  one = λ j m x d lt p q a b mk. by_mark d.lit (is_marked kept d.lit) refl (k.none j m x d lt p q a b mk);
})
  where
    by_mark : (l : ℤ) (b : Bool) → is_marked kept l ≡ b → is_marked marks l ≡ false → is_marked kept l ≡ false
    by_mark l true r n = absurd (cc (k.in_marks.at l r, n))
    by_mark l false r n = r

reason_is : (known : Known) (before : Assignment) (e : TrailEntry) (o : Option ℕ) → e.reason ≡ o → IsReason known before e.lit o → HasNoReason known e → is_none o ≡ true
reason_is known before e None q r n = refl
reason_is known before e (Some id) q r n = absurd (cc (n id q, r.1))

-- an entry without a reason is decided
no_reason : (v : ℕ) (known : Known) (es : List TrailEntry) (i : ℕ) (e : TrailEntry) → AreReasons v known es → slice_get es i ≡ Some e → HasNoReason known e → is_none e.reason ≡ true
no_reason v known es i e r q n = reason_is known (values_of v (take i es)) e e.reason refl (r.at i e q) n

-- so it is above level 0, and the first of its level
first_of_level : (v : ℕ) (known : Known) (es : List TrailEntry) (i : ℕ) (e : TrailEntry) → IsSound v known es → slice_get es i ≡ Some e → HasNoReason known e → e.level ≡ decisions (take i es) + 1
first_of_level v known es i e s q n = s.levels.at i e q ∙ decisions-next es i e q ∙ ap (λ b. decisions (take i es) + cond b 1 0) (no_reason v known es i e s.reasons q n)

pub before-level : (es : List TrailEntry) (i k : ℕ) (d : TrailEntry) → AreLevels es → k < i → slice_get es k ≡ Some d → d.level ≤ decisions (take i es)
before-level es i k d f lt q = omega (arith, f.at k d q, decisions-more es (suc k) i (omega (arith, lt)))

-- what is to be explained has a reason
pub to-explain-reason : (v : ℕ) (known : Known) (es : List TrailEntry) (marks : Marks) (i : ℕ) (e : TrailEntry) → IsSound v known es → slice_get es i ≡ Some e → IsToExplain (decisions es) es marks i e true → HasNoReason known e → ⊥
to-explain-reason v known es marks i e s q (inl z) n = absurd (omega (arith, z, first_of_level v known es i e s q n))
to-explain-reason v known es marks i e s q (inr x) n = absurd (omega (arith, x.0, first_of_level v known es i e s q n, x.1.level_is, before-level es i x.1.place x.1.entry s.levels x.1.before x.1.there))

-- so what is kept wasn't to be explained
kept_false : (v : ℕ) (known : Known) (es : List TrailEntry) (marks : Marks) (i : ℕ) (e : TrailEntry) (b : Bool) → IsSound v known es → slice_get es i ≡ Some e → IsToExplain (decisions es) es marks i e b → (b ≡ false) ⊎ HasNoReason known e → IsToExplain (decisions es) es marks i e false
kept_false v known es marks i e false s q t o = t
kept_false v known es marks i e true s q t (inl z) = absurd (cc z)
kept_false v known es marks i e true s q t (inr n) = absurd (to-explain-reason v known es marks i e s q t n)

-- the entry is kept
keeps : (v : ℕ) (known : Known) (es : List TrailEntry) (marks kept kept' : Marks) (i : ℕ) (e : TrailEntry) → IsSound v known es → slice_get es i ≡ Some e → Keeping es marks kept (suc i) → kept' ≡ slice_set kept (place e.lit) true → is_marked marks e.lit ≡ true → IsToExplain (decisions es) es marks i e false → Keeping es marks kept' i
keeps v known es marks kept kept' i e s q k is m t = rw is (record {
  above = λ j d p own. elim (marked-set kept e.lit d.lit own) [
    | inl old ↦ k.above j d p old
    | inr here ↦ (let z : j ≡ i = same-place v es j i d e s.fresh p q here in let r : Some d ≡ Some e = sym p ∙ ap (slice_get es) z ∙ q in let y : d ≡ e = cc r in rw y t.0)
  ];
  none = λ j n d x lt p w a b own. elim (marked-set kept e.lit d.lit own) [
    | inl old ↦ k.none j n d x lt p w a b old
    | inr here ↦ (let z : j ≡ i = same-place v es j i d e s.fresh p q here in let r : Some d ≡ Some e = sym p ∙ ap (slice_get es) z ∙ q in let y : d ≡ e = cc r in (t.1 (ap (λ (o : TrailEntry). o.level) (sym y) ∙ a)).at n x (omega (arith, lt, z)) w b)
  ];
  unkept = λ n d lt p. by_mark n d lt p (is_marked (slice_set kept (place e.lit) true) d.lit) refl;
  in_marks = record {
    at = λ l own. elim (marked-set kept e.lit l own) [
      | inl old ↦ k.in_marks.at l old
      | inr here ↦ ap (λ p. is_there p) here ∙ m
    ];
  };
})
  where
    is_there : ℕ → Bool
    is_there p = slice_index_or marks p false

    by_mark : (n : ℕ) (d : TrailEntry) → n < i → slice_get es n ≡ Some d → (b : Bool) → is_marked (slice_set kept (place e.lit) true) d.lit ≡ b → is_marked (slice_set kept (place e.lit) true) d.lit ≡ false
    by_mark n d lt p false r = r
    by_mark n d lt p true r = elim (marked-set kept e.lit d.lit r) [
      | inl old ↦ absurd (cc (old, k.unkept n d (omega (arith, lt)) p))
      | inr here ↦ absurd (other-place v es n i d e s.fresh lt p q here)
    ]

-- what is marked more stands before the entry, so not at the last level where one of it is kept
still_none : (v : ℕ) (known : Known) (es : List TrailEntry) (marks marks' kept : Marks) (i : ℕ) (e : TrailEntry) → IsSound v known es → slice_get es i ≡ Some e → Keeping es marks kept (suc i) → AreSetIn (values_of v (take i es)) marks' marks → is_marked marks e.lit ≡ true
    → (j n : ℕ) (d x : TrailEntry) → n < j → slice_get es j ≡ Some d → slice_get es n ≡ Some x → d.level ≡ decisions es → x.level ≡ decisions es → is_marked kept d.lit ≡ true → (b : Bool) → is_marked marks' x.lit ≡ b → is_marked marks' x.lit ≡ false
still_none v known es marks marks' kept i e s q k new m j n d x lt p w a b own false r = r
still_none v known es marks marks' kept i e s q k new m j n d x lt p w a b own true r = elim (new.at x.lit r) [
  | inl old ↦ absurd (cc (old, k.none j n d x lt p w a b own))
  | inr was ↦ elim (cases_lt i j) [
    | inl after ↦ absurd (cc (m, k.none j i d e after p q a (at_top was) own))
    | inr ge ↦ absurd (cc (own, k.unkept j d (omega (arith, ge)) p))
  ]
]
  where
    at_top : is_unset (value_of (values_of v (take i es)) x.lit) ≡ false → e.level ≡ decisions es
    at_top was = elim (cases_lt n i) [
      | inl before ↦ omega (arith, b, level-most es i e s.levels q, (levels-rise es s.levels).at n i x e (omega (arith, before)) w q)
      | inr ge ↦ absurd (cc (was, unset-earlier v es i n x s.fresh (omega (arith, ge)) w))
    ]

-- the entry is explained, or isn't marked
spares : (v : ℕ) (known : Known) (es : List TrailEntry) (marks marks' kept : Marks) (i : ℕ) (e : TrailEntry) → IsSound v known es → slice_get es i ≡ Some e → Keeping es marks kept (suc i) → Grows marks' marks → AreSetIn (values_of v (take i es)) marks' marks → (marks' ≡ marks) ⊎ (is_marked marks e.lit ≡ true) → Keeping es marks' kept i
spares v known es marks marks' kept i e s q k g new (inl same) = rw same (record { above = k.above; none = k.none; unkept = λ n d lt p. k.unkept n d (omega (arith, lt)) p; in_marks = k.in_marks })
spares v known es marks marks' kept i e s q k g new (inr m) = record {
  above = k.above;
  none = λ j n d x lt p w a b own. still_none v known es marks marks' kept i e s q k new m j n d x lt p w a b own (is_marked marks' x.lit) refl;
  unkept = λ n d lt p. k.unkept n d (omega (arith, lt)) p;
  in_marks = grows-trans marks' marks kept g k.in_marks;
}

-- one entry back
pub keeping-next : (v : ℕ) (known : Known) (es : List TrailEntry) (marks kept marks' kept' : Marks) (i : ℕ) (e : TrailEntry) (b : Bool) → IsSound v known es → slice_get es i ≡ Some e → Keeping es marks kept (suc i) → (is_marked marks e.lit ≡ true → IsToExplain (decisions es) es marks i e b) → Grows marks' marks → AreSetIn (values_of v (take i es)) marks' marks → IsKeptOrNot known e b (marks, kept) (marks', kept') → Keeping es marks' kept' i
keeping-next v known es marks kept marks' kept' i e b s q k t g new (inl x) = rw (x.0) (spares v known es marks marks' kept i e s q k g new x.1)
keeping-next v known es marks kept marks' kept' i e b s q k t g new (inr x) = rw (x.1) (keeps v known es marks kept kept' i e s q k x.0 x.2 (kept_false v known es marks i e b s q (t x.2) x.3))

-- what is marked more was marked by reasons of entries from a place on that aren't kept
pub record MarkedBy (v : ℕ) (known : Known) (es : List TrailEntry) (first marks kept : Marks) (i : ℕ) : Type 0 where
  pub at : (l : ℤ) → is_marked marks l ≡ true → (is_marked first l ≡ true) ⊎ ((r : IsFalseInReason v known es marks (λ m. is_marked kept m ≡ true) l) × (i ≤ r.at))

-- a reason stays one with more marks, where its entry is still not kept
abbrev pub reason_stays : (v : ℕ) (known : Known) (es : List TrailEntry) (marks marks' kept kept' : Marks) (l : ℤ) → Grows marks' marks → (r : IsFalseInReason v known es marks (λ m. is_marked kept m ≡ true) l) → (is_marked kept' r.entry.lit ≡ true → ⊥) → IsFalseInReason v known es marks' (λ m. is_marked kept' m ≡ true) l
reason_stays v known es marks marks' kept kept' l g r un = record { at = r.at; entry = r.entry; there = r.there; marked = g.at r.entry.lit r.marked; unkept = un; id = r.id; reason = r.reason; false_at = r.false_at }

pub marked_by-first : (v : ℕ) (known : Known) (es : List TrailEntry) (marks kept : Marks) (i : ℕ) → MarkedBy v known es marks marks kept i
marked_by-first v known es marks kept i = record { at = λ l m. inl m }

-- one entry back
pub marked_by-next : (v : ℕ) (known : Known) (es : List TrailEntry) (first marks kept marks' kept' : Marks) (i : ℕ) (e : TrailEntry) (b : Bool) → AreFresh v es → slice_get es i ≡ Some e → Keeping es marks kept (suc i) → Grows marks' marks → MarkedBy v known es first marks kept (suc i) → AddsReason known e (values_of v (take i es)) marks' marks
    → IsKeptOrNot known e b (marks, kept) (marks', kept') → MarkedBy v known es first marks' kept' i
marked_by-next v known es first marks kept marks' kept' i e b f there k g h x (inl o) = record {
  at = λ l m. elim (x.at l m) [
    | inl was ↦ elim (h.at l was) [
      | inl early ↦ inl early
      | inr r ↦ inr (reason_stays v known es marks marks' kept kept' l g r.0 (λ own. r.0.unkept (subst (λ q. is_marked q r.0.entry.lit ≡ true) o.0 own)), omega (arith, r.1))
    ]
    | inr now ↦ inr (
      record { at = i; entry = e; there = there; marked = g.at e.lit now.0; unkept = λ own. cc (own, ap (λ q. is_marked q e.lit) o.0, k.unkept i e (omega arith) there); id = now.1.0; reason = now.1.1; false_at = now.1.2 },
      omega arith,
    )
  ];
}
marked_by-next v known es first marks kept marks' kept' i e b f there k g h x (inr o) = record {
  at = λ l m. elim (h.at l (subst (λ q. is_marked q l ≡ true) o.1 m)) [
    | inl early ↦ inl early
    | inr r ↦ inr (reason_stays v known es marks marks' kept kept' l g r.0 (still_unkept l r.0 (omega (arith, r.1))), omega (arith, r.1))
  ];
}
  where
    still_unkept : (l : ℤ) (r : IsFalseInReason v known es marks (λ m. is_marked kept m ≡ true) l) → i < r.at → is_marked kept' r.entry.lit ≡ true → ⊥
    still_unkept l r lt own = elim (marked-set kept e.lit r.entry.lit (subst (λ q. is_marked q r.entry.lit ≡ true) o.0 own)) [
      | inl old ↦ r.unkept old
      | inr here ↦ other-place v es i r.at e r.entry f lt there r.there (sym here)
    ]

pub marked_by-end : (v : ℕ) (known : Known) (es : List TrailEntry) (first marks kept : Marks) (i : ℕ) → MarkedBy v known es first marks kept i → AddsReasons v known es kept marks first
marked_by-end v known es first marks kept i h = record {
  at = λ l m. elim (h.at l m) [
    | inl early ↦ inl early
    | inr r ↦ inr r.0
  ];
}
