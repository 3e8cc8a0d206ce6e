-- A learned clause includes no clause of the form and no earlier step.
use Rattle.std.proofs.Common.{◌≡◌, ℕ, zero, suc, ◌<◌, ◌≤◌, Some, List, [], ◌∷◌, ◌++◌, length, arith, refl, sym, ap, ◌∙◌, subst, ◌⊎◌, inl, inr}
use Rattle.std.specs.Prelude.{slice_get, unsigned_abs, All}
use Rattle.std.proofs.lemmas.Option.{slice_get_within, get_or_from_slice_get}
use Rattle.std.proofs.lemmas.List.Elements.{All-weaker}
use Rattle.ps_pb.specs.Constraints.{Constraint}
use Rattle.ps_pb.specs.Steps.{Known, constraint_at, Step, lits_of, added, with_step, with_steps, IsLawful, AreLawful}
use Rattle.ps_pb.proofs.Ids.{at-id, kept-all}
use Rattle.ps_pb.proofs.Short.{lawful-different}
use Rattle.ps_clause.specs.Forms.{Form, HasClauses, clause_at, first_known}
use Rattle.ps_learn.specs.Trails.{Trail, IsLit}
use Rattle.ps_clause.specs.Spent.{IncludesTerms, IncludesLits, AreNew}
use Rattle.ps_learn.proofs.Terms.{has-clause}
use Rattle.ps_learn.proofs.Learnt.{Learns, new-clause}
use Rattle.ps_learn.proofs.Distinct.{form-clause}

front_get : (cs : List Constraint) (g c : Constraint) (i : ℕ) → slice_get cs i ≡ Some c → slice_get (cs ++ g ∷ []) i ≡ Some c
front_get [] g c i h = absurd (cc)
front_get (x ∷ cs) g c zero h = h
front_get (x ∷ cs) g c (suc i) h = front_get cs g c i h

-- a clause of the form is known under its number
pub form-known : (f : Form) (goal : Constraint) (ss : List Step) (id : ℕ) (c : Constraint) → clause_at f id ≡ Some c → constraint_at (with_steps (first_known f goal) ss) id ≡ Some c
form-known f goal ss zero c h = absurd (cc)
form-known f goal ss (suc i) c h = kept-all (first_known f goal) ss (suc i) c (at-id (f.clauses ++ goal ∷ []) i ∙ front_get f.clauses goal c i h)

last_known : (known : Known) (c : Constraint) → constraint_at (known ++ Some c ∷ []) (suc (length known)) ≡ Some c
unfolding constraint_at
last_known [] c = refl
last_known (k ∷ known) c = last_known known c

-- a step's clause is known after it
pub step-known : (known : Known) (ss : List Step) (j : ℕ) (r : Step) → slice_get ss j ≡ Some r → (id : ℕ) × (constraint_at (with_steps known ss) id ≡ Some (added r))
step-known known [] j r q = absurd (cc)
step-known known (s ∷ ss) zero r q = (suc (length known), kept-all (with_step known s) ss (suc (length known)) (added r) (let z : s ≡ r = cc q in rw z (last_known known (added r))))
step-known known (s ∷ ss) (suc j) r q = step-known (with_step known s) ss j r q

-- it was lawful after what was known then
pub step-lawful : (v : ℕ) (known : Known) (ss : List Step) (j : ℕ) (r : Step) → AreLawful v known ss → slice_get ss j ≡ Some r → (then : Known) × IsLawful v then r
step-lawful v known [] j r h q = absurd (cc)
step-lawful v known (s ∷ ss) zero r h q = (known, (let z : s ≡ r = cc q in subst (λ y. IsLawful v known y) z h.0))
step-lawful v known (s ∷ ss) (suc j) r h q = step-lawful v (with_step known s) ss j r h.1 q

step_last : (ss : List Step) (x s : Step) (i : ℕ) → slice_get (ss ++ x ∷ []) i ≡ Some s → (slice_get ss i ≡ Some s) ⊎ ((i ≡ length ss) × (x ≡ s))
step_last [] x s zero h = inr (refl, cc)
step_last [] x s (suc i) h = absurd (cc)
step_last (y ∷ ss) x s zero h = inl h
step_last (y ∷ ss) x s (suc i) h = elim (step_last ss x s i h) [ inl p ↦ inl p | inr q ↦ inr (ap suc q.0, q.1) ]

step_before : (ss : List Step) (x r : Step) (j : ℕ) → j < length ss → slice_get (ss ++ x ∷ []) j ≡ Some r → slice_get ss j ≡ Some r
step_before ss x r j lt q = elim (step_last ss x r j q) [
  | inl old ↦ old
  | inr new ↦ absurd (let e = new.0 in omega (arith, lt, e))
]

-- each literal of each step is one of these variables
abbrev pub AreOf : ℕ → List Step → Type 0
AreOf variables ss = All (λ s. All (IsLit variables) s.lits) ss

step_lits : (v : ℕ) (ss : List Step) (j : ℕ) (r : Step) → AreOf v ss → slice_get ss j ≡ Some r → All (IsLit v) r.lits
step_lits v ss j r h q = rw (get_or_from_slice_get ss j r r q) at (h j r (slice_get_within ss j r q))

not_form : (f : Form) (goal : Constraint) (ss : List Step) (t : Trail) (x : Step) (next id : ℕ) (c : Constraint) → HasClauses f → Learns t (with_steps (first_known f goal) ss) x next → clause_at f id ≡ Some c → IncludesTerms (lits_of x) c → ⊥
not_form f goal ss t x next zero c h l q inc = absurd (cc)
not_form f goal ss t x next (suc i) c h l q inc = let k = form-clause f i c h q in new-clause t (with_steps (first_known f goal) ss) x next (suc i) c k.lits l (form-known f goal ss (suc i) c q) k.is k.different inc

not_step : (f : Form) (goal : Constraint) (ss : List Step) (t : Trail) (x : Step) (next j : ℕ) (r : Step) → AreLawful f.variables (first_known f goal) ss → AreOf f.variables ss → Learns t (with_steps (first_known f goal) ss) x next → slice_get ss j ≡ Some r → IncludesLits (lits_of x) (lits_of r) → ⊥
not_step f goal ss t x next j r all of l q inc =
    let k = step-known (first_known f goal) ss j r q in
    let lawful = step-lawful f.variables (first_known f goal) ss j r all q in
    let d = lawful-different f.variables lawful.0 r lawful.1 in
    let some : All (λ m. 1 ≤ unsigned_abs m) (lits_of r) = All-weaker (IsLit f.variables) (λ m. 1 ≤ unsigned_abs m) (λ m p. p.0) (lits_of r) (step_lits f.variables ss j r of q) in
    new-clause t (with_steps (first_known f goal) ss) x next k.0 (added r) (lits_of r) l k.1 refl d (record { at = λ m n h. inc.at m (has-clause (lits_of r) m n d some h) })

pub new-none : (f : Form) → AreNew f []
new-none f = record { clauses = λ i s id c q. absurd (cc); earlier = λ j i r s lt p q. absurd (cc) }

-- one more learned clause is new
pub new-more : (f : Form) (goal : Constraint) (ss : List Step) (t : Trail) (x : Step) (next : ℕ) → HasClauses f → AreLawful f.variables (first_known f goal) ss → AreOf f.variables ss → Learns t (with_steps (first_known f goal) ss) x next → AreNew f ss → AreNew f (ss ++ x ∷ [])
new-more f goal ss t x next h all of l n = record {
  clauses = λ i s id c q k inc. elim (step_last ss x s i q) [
    | inl old ↦ n.clauses i s id c old k inc
    | inr new ↦ not_form f goal ss t x next id c h l k (subst (λ (y : Step). IncludesTerms (lits_of y) c) (sym new.1) inc)
  ];
  earlier = λ j i r s lt p q inc. elim (step_last ss x s i q) [
    | inl old ↦ n.earlier j i r s lt (step_before ss x r j (let w = slice_get_within ss i s old in omega (arith, w, lt)) p) old inc
    | inr new ↦ not_step f goal ss t x next j r all of l (step_before ss x r j (let e = new.0 in omega (arith, e, lt)) p) (subst (λ (y : Step). IncludesLits (lits_of y) (lits_of r)) (sym new.1) inc)
  ];
}
