-- The terms of each known constraint are of different variables.
use Rattle.std.proofs.Common.{◌≡◌, ◌≢◌, ℕ, zero, suc, ◌<◌, ◌≤◌, ℤ, pos, negsuc, Some, List, [], ◌∷◌, ◌++◌, arith, sym, ◌∙◌, subst, ◌⊎◌, inl, inr}
use Rattle.std.specs.Prelude.{slice_get}
use Rattle.std.proofs.lemmas.List.{append-nil}
use Rattle.std.proofs.lemmas.Option.{slice_get_within, get_or_from_slice_get}
use Rattle.ps_pb.specs.Assignments.{place}
use Rattle.ps_pb.specs.Constraints.{Constraint}
use Rattle.ps_pb.specs.Weights.{Weighted, term_at, terms_below, last_variable, coefficient_at, constraint_of, weighted, IsNormal}
use Rattle.ps_pb.specs.Steps.{Known, constraint_at, Step, added, with_step, with_steps}
use Rattle.ps_pb.proofs.Setting.{HasNone, AreDistinct, rising-distinct}
use Rattle.ps_pb.proofs.Lawful.{constraint_at-more}
use Rattle.ps_pb.proofs.Ids.{at-id, at-zero}
use Rattle.ps_clause.specs.Forms.{Form, IsClause, HasClauses, first_known}
use Rattle.ps_learn.proofs.Due.{AreAllDistinct}

none_push : (p q : ℕ) (ts : List (ℤ × ℕ)) (u : ℤ × ℕ) → HasNone p ts → place u.0 ≢ p → HasNone p (ts ++ u ∷ [])
none_push p q [] u h n = (n, tt)
none_push p q (t ∷ ts) u h n = (h.0, none_push p q ts u h.1 n)

distinct_push : (ts : List (ℤ × ℕ)) (u : ℤ × ℕ) → AreDistinct ts → HasNone (place u.0) ts → AreDistinct (ts ++ u ∷ [])
distinct_push [] u d h = (tt, tt)
distinct_push (t ∷ ts) u d h = (none_push (place t.0) 0 ts u d.0 (λ e. h.0 (sym e)), distinct_push ts u d.1 h.1)

none_more : (p q : ℕ) (k : ℤ) (ts : List (ℤ × ℕ)) → HasNone q ts → p < q → HasNone q (ts ++ term_at p k)
none_more p q (pos zero) ts h lt = subst (λ r. HasNone q r) (sym (append-nil ts)) h
none_more p q (pos (suc n)) ts h lt = none_push q 0 ts (pos (suc p), suc n) h (λ e. absurd (omega (arith, e, lt)))
none_more p q (negsuc n) ts h lt = none_push q 0 ts (negsuc p, suc n) h (λ e. absurd (omega (arith, e, lt)))

none_below : (n q : ℕ) (f : ℕ → ℤ) → n ≤ q → HasNone q (terms_below n f)
none_below zero q f h = tt
none_below (suc p) q f h = none_more p q (f p) (terms_below p f) (none_below p q f (omega (arith, h))) (omega (arith, h))

at_own : (p : ℕ) (ts : List (ℤ × ℕ)) (q : ℕ) → q ≡ p → HasNone p ts → HasNone q ts
at_own p ts q e h = subst (λ r. HasNone r ts) (sym e) h

distinct_more : (p : ℕ) (k : ℤ) (ts : List (ℤ × ℕ)) → AreDistinct ts → HasNone p ts → AreDistinct (ts ++ term_at p k)
distinct_more p (pos zero) ts d h = subst (λ r. AreDistinct r) (sym (append-nil ts)) d
distinct_more p (pos (suc n)) ts d h = distinct_push ts (pos (suc p), suc n) d (at_own p ts (place (pos (suc p))) (omega arith) h)
distinct_more p (negsuc n) ts d h = distinct_push ts (negsuc p, suc n) d (at_own p ts (place (negsuc p)) (omega arith) h)

distinct_below : (n : ℕ) (f : ℕ → ℤ) → AreDistinct (terms_below n f)
distinct_below zero f = tt
distinct_below (suc p) f = distinct_more p (f p) (terms_below p f) (distinct_below p f) (none_below p p f (omega arith))

pub constraint-distinct : (ts : Weighted) (least : ℤ) → AreDistinct (constraint_of ts least).terms
unfolding constraint_of
constraint-distinct ts least = distinct_below (last_variable ts) (coefficient_at ts)

-- what is known first
of_first : (cs : List Constraint) (g c : Constraint) (i : ℕ) → slice_get (cs ++ g ∷ []) i ≡ Some c → (slice_get cs i ≡ Some c) ⊎ (g ≡ c)
of_first [] g c zero h = inr cc
of_first [] g c (suc i) h = absurd (cc)
of_first (x ∷ cs) g c zero h = inl h
of_first (x ∷ cs) g c (suc i) h = of_first cs g c i h

pub form-clause : (f : Form) (i : ℕ) (c : Constraint) → HasClauses f → slice_get f.clauses i ≡ Some c → IsClause f.variables c
form-clause f i c h q = rw (get_or_from_slice_get f.clauses i c c q) at (h i c (slice_get_within f.clauses i c q))

clause_distinct : (f : Form) (c : Constraint) → IsClause f.variables c → AreDistinct c.terms
clause_distinct f c h = rw h.is (constraint-distinct _ _)

first_distinct : (f : Form) (goal : Constraint) (id : ℕ) (c : Constraint) → HasClauses f → IsNormal (weighted goal.terms) goal.degree → constraint_at (first_known f goal) id ≡ Some c → AreDistinct c.terms
first_distinct f goal zero c h n q = absurd (at-zero (f.clauses ++ goal ∷ []) c q)
first_distinct f goal (suc i) c h n q = elim (of_first f.clauses goal c i (sym (at-id (f.clauses ++ goal ∷ []) i) ∙ q)) [
  | inl old ↦ clause_distinct f c (form-clause f i c h old)
  | inr own ↦ rw (← own) (rising-distinct 0 goal.terms n.rising)
]

-- and after steps
of_steps : (known : Known) (ss : List Step) (id : ℕ) (c : Constraint) → constraint_at (with_steps known ss) id ≡ Some c → (constraint_at known id ≡ Some c) ⊎ ((s : Step) × (added s ≡ c))
of_steps known [] id c h = inl h
of_steps known (s ∷ ss) id c h = elim (of_steps (with_step known s) ss id c h) [
  | inl old ↦ elim (constraint_at-more known (Some (added s)) id c old) [
    | inl older ↦ inl older
    | inr new ↦ inr (s, cc new)
  ]
  | inr r ↦ inr r
]

pub all-distinct : (f : Form) (goal : Constraint) (ss : List Step) → HasClauses f → IsNormal (weighted goal.terms) goal.degree → AreAllDistinct (with_steps (first_known f goal) ss)
all-distinct f goal ss h n = record {
  at = λ id c q. elim (of_steps (first_known f goal) ss id c q) [
    | inl old ↦ first_distinct f goal id c h n old
    | inr new ↦ subst (λ k. AreDistinct k.terms) new.1 (constraint-distinct _ _)
  ];
}
