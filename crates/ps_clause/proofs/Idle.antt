-- An idle clause is met where all its variables but one have values.
use Rattle.std.proofs.Common.{◌≡◌, ◌≢◌, ◌⊎◌, inl, inr, ℕ, zero, suc, ◌+◌, ◌-◌, ◌≤◌, ℤ, pos, negsuc, ◌≤ℤ◌, Bool, true, false, cond, not, ◌&&◌, Some, None, List, [], ◌∷◌, ◌++◌, map, get_or, arith, refl, sym, ◌∙◌}
use Rattle.std.specs.Prelude.{int_lt, ◌==◌}
use Rattle.std.specs.List.{list_all, All}
use Rattle.std.proofs.lemmas.Int.{ints}
use Rattle.std.proofs.lemmas.Bool.{cases_Bool, cases_eq, and_parts}
use Rattle.std.proofs.lemmas.List.Elements.{All-nil, All-cons, All-head, All-tail}
use Rattle.ps_pb.specs.Assignments.{Assignment, place, value_of, with_sign, is_false, is_unset, agree, holds}
use Rattle.ps_pb.specs.Constraints.{Constraint, IsMet, is_open, sum_where, slack, is_violated, is_forced, some_forced, HasTerm, Forces}
use Rattle.ps_pb.specs.Weights.{each_once, coefficient_at, term_at, terms_below, last_variable, constraint_of, clause_of}
use Rattle.ps_pb.proofs.Forcing.{lt-of}
use Rattle.ps_pb.proofs.Linear.{sum_where-append}
use Rattle.ps_pb.proofs.Lawful.{met-clause, clause-met}
use Rattle.ps_clause.specs.Clauses.{Clause, meets}
use Rattle.ps_clause.specs.Decided.{IsIdle}

-- what isn't forced has a coefficient of at most the slack
unforced-term : (s : ℤ) (a : Assignment) (ts : List (ℤ × ℕ)) (l : ℤ) (k : ℕ) → some_forced s a ts ≡ false → HasTerm l k ts → is_unset (value_of a l) ≡ true → pos k ≤ℤ s
unforced-term s a [] l k h t u = absurd t
unforced-term s a (t ∷ ts) l k h at u = elim (cases_Bool (is_forced s a t)) [
  | inl e ↦ absurd (cc)
  | inr e ↦ (let rest : some_forced s a ts ≡ false = rw e at h in
      elim at [
        | inl here ↦ (let f : (is_unset (value_of a l) && int_lt s (pos k)) ≡ false = rw (sym here.0, sym here.1) e in
            let g : int_lt s (pos k) ≡ false = rw u at f in
            grind (arith, ints))
        | inr later ↦ unforced-term s a ts l k rest later u
      ])
]

term-left : (l : ℤ) (k : ℕ) (ts us : List (ℤ × ℕ)) → HasTerm l k ts → HasTerm l k (ts ++ us)
term-left l k [] us h = absurd h
term-left l k (t ∷ ts) us (inl h) = inl h
term-left l k (t ∷ ts) us (inr h) = inr (term-left l k ts us h)

term-right : (l : ℤ) (k : ℕ) (ts us : List (ℤ × ℕ)) → HasTerm l k us → HasTerm l k (ts ++ us)
term-right l k [] us h = h
term-right l k (t ∷ ts) us h = inr (term-right l k ts us h)

-- a full assignment gives a variable the value that it has
abbrev pub IsKnown : List Bool → Assignment → ℕ → Type 0
IsKnown w a p = get_or a p None ≡ Some (get_or w p false)

-- each variable but one is known, or has no coefficient
pub record AreKnown (w : List Bool) (a : Assignment) (i : ℕ) (f : ℕ → ℤ) : Type 0 where
  pub at : (p : ℕ) → p ≢ i → (f p ≡ pos 0) ⊎ IsKnown w a p

open-known : (b v : Bool) → not (is_false (with_sign b (Some v))) ≡ agree b v
open-known true true = refl
open-known true false = refl
open-known false true = refl
open-known false false = refl

open-positive : (w : List Bool) (a : Assignment) (p : ℕ) → IsKnown w a p → is_open a (pos (suc p)) ≡ holds w (pos (suc p))
unfolding value_of holds
open-positive w a p k = let e : suc p - 1 ≡ p = omega arith in rw (e, k) (open-known true (get_or w p false))

open-negative : (w : List Bool) (a : Assignment) (p : ℕ) → IsKnown w a p → is_open a (negsuc p) ≡ holds w (negsuc p)
unfolding value_of holds
open-negative w a p k = let e : suc p - 1 ≡ p = omega arith in rw (e, k) (open-known false (get_or w p false))

term-same : (w : List Bool) (a : Assignment) (p : ℕ) (k : ℤ) → (k ≡ pos 0) ⊎ IsKnown w a p → sum_where (is_open a) (term_at p k) ≡ sum_where (holds w) (term_at p k)
term-same w a p k (inl e) = rw e refl
term-same w a p (pos zero) (inr e) = refl
term-same w a p (pos (suc m)) (inr e) = rw (open-positive w a p e) refl
term-same w a p (negsuc m) (inr e) = rw (open-negative w a p e) refl

sums-same : (w : List Bool) (a : Assignment) (i : ℕ) (f : ℕ → ℤ) → AreKnown w a i f → (n : ℕ) → n ≤ i → sum_where (is_open a) (terms_below n f) ≡ sum_where (holds w) (terms_below n f)
sums-same w a i f known zero le = refl
sums-same w a i f known (suc p) le =
    omega (arith, sum_where-append (is_open a) (terms_below p f) (term_at p (f p)), sum_where-append (holds w) (terms_below p f) (term_at p (f p)), sums-same w a i f known p (omega arith), term-same w a p (f p) (known.at p (omega arith)))

-- the open coefficients are the true ones, or these and that of an unset literal
abbrev pub Gap : List Bool → Assignment → List (ℤ × ℕ) → Type 0
Gap w a ts = (sum_where (is_open a) ts ≡ sum_where (holds w) ts) ⊎ ((l : ℤ) × (k : ℕ) × HasTerm l k ts × (is_unset (value_of a l) ≡ true) × (sum_where (is_open a) ts ≤ sum_where (holds w) ts + k))

at-most : (x y : Bool) (k : ℕ) → cond x k 0 + 0 ≤ (cond y k 0 + 0) + k
at-most true y k = omega arith
at-most false y k = omega arith

unset-positive : (a : Assignment) (i : ℕ) → get_or a i None ≡ None → is_unset (value_of a (pos (suc i))) ≡ true
unfolding value_of
unset-positive a i u = let e : suc i - 1 ≡ i = omega arith in rw (e, u) refl

unset-negative : (a : Assignment) (i : ℕ) → get_or a i None ≡ None → is_unset (value_of a (negsuc i)) ≡ true
unfolding value_of
unset-negative a i u = let e : suc i - 1 ≡ i = omega arith in rw (e, u) refl

own-gap : (w : List Bool) (a : Assignment) (i : ℕ) (k : ℤ) → get_or a i None ≡ None → Gap w a (term_at i k)
own-gap w a i (pos zero) u = inl refl
own-gap w a i (pos (suc m)) u = inr (pos (suc i), suc m, inl (refl, refl), unset-positive a i u, at-most (is_open a (pos (suc i))) (holds w (pos (suc i))) (suc m))
own-gap w a i (negsuc m) u = inr (negsuc i, suc m, inl (refl, refl), unset-negative a i u, at-most (is_open a (negsuc i)) (holds w (negsuc i)) (suc m))

gap-left : (w : List Bool) (a : Assignment) (ts us : List (ℤ × ℕ)) → sum_where (is_open a) us ≡ sum_where (holds w) us → Gap w a ts → Gap w a (ts ++ us)
gap-left w a ts us same (inl e) = inl (omega (arith, e, same, sum_where-append (is_open a) ts us, sum_where-append (holds w) ts us))
gap-left w a ts us same (inr g) = inr (g.0, g.1, term-left g.0 g.1 ts us g.2, g.3, omega (arith, g.4, same, sum_where-append (is_open a) ts us, sum_where-append (holds w) ts us))

gap-right : (w : List Bool) (a : Assignment) (ts us : List (ℤ × ℕ)) → sum_where (is_open a) ts ≡ sum_where (holds w) ts → Gap w a us → Gap w a (ts ++ us)
gap-right w a ts us same (inl e) = inl (omega (arith, e, same, sum_where-append (is_open a) ts us, sum_where-append (holds w) ts us))
gap-right w a ts us same (inr g) = inr (g.0, g.1, term-right g.0 g.1 ts us g.2, g.3, omega (arith, g.4, same, sum_where-append (is_open a) ts us, sum_where-append (holds w) ts us))

gap : (w : List Bool) (a : Assignment) (i : ℕ) (f : ℕ → ℤ) → get_or a i None ≡ None → AreKnown w a i f → (n : ℕ) → Gap w a (terms_below n f)
gap w a i f u known zero = inl refl
gap w a i f u known (suc p) = elim (cases_eq p i) [
  | inl e ↦ gap-right w a (terms_below p f) (term_at p (f p)) (sums-same w a i f known p (omega arith)) (rw e (own-gap w a i (f i) u))
  | inr ne ↦ gap-left w a (terms_below p f) (term_at p (f p)) (term-same w a p (f p) (known.at p ne)) (gap w a i f u known p)
]

gap-met : (w : List Bool) (a : Assignment) (c : Constraint) → IsIdle c a → Gap w a c.terms → IsMet w c
gap-met w a c idle (inl e) = let v = idle.unviolated in grind (arith, ints)
gap-met w a c idle (inr g) =
    omega (arith, ints, g.4, unforced-term (slack c a) a c.terms g.0 g.1 idle.unforced g.2 g.3)

-- the variables of the literals but that at one place are known
abbrev pub AreOthersKnown : List Bool → Assignment → ℕ → Clause → Type 0
AreOthersKnown w a i [] = Unit {0}
AreOthersKnown w a i (l ∷ ls) = ((place l ≡ i) ⊎ IsKnown w a (place l)) × AreOthersKnown w a i ls

eq_test-false : (i j : ℕ) → i ≢ j → (i == j) ≡ false
eq_test-false i j h = grind arith

coefficient-known : (w : List Bool) (a : Assignment) (i : ℕ) (ls : Clause) → AreOthersKnown w a i ls → (p : ℕ) → p ≢ i → (coefficient_at (each_once ls) p ≡ pos 0) ⊎ IsKnown w a p
coefficient-known w a i [] h p ne = inl refl
coefficient-known w a i (l ∷ ls) h p ne = elim (cases_eq (place l) p) [
  | inl e ↦ elim h.0 [
    | inl own ↦ absurd (ne (sym e ∙ own))
    | inr k ↦ inr (rw e at k)
  ]
  | inr other ↦ elim (coefficient-known w a i ls h.1 p ne) [
    | inl z ↦ inl (rw (eq_test-false (place l) p other) (omega (arith, ints, z)))
    | inr k ↦ inr k
  ]
]

pub idle-met : (w : List Bool) (a : Assignment) (i : ℕ) (ls : Clause) → get_or a i None ≡ None → AreOthersKnown w a i ls → IsIdle (clause_of ls) a → meets w ls ≡ true
unfolding constraint_of
idle-met w a i ls u known idle =
    met-clause w ls (gap-met w a (clause_of ls) idle (gap w a i (coefficient_at (each_once ls)) u (record { at = coefficient-known w a i ls known }) (last_variable (each_once ls))))

-- some term is forced, or none is
forced-term : (c : Constraint) (a : Assignment) (ts : List (ℤ × ℕ)) → ((l : ℤ) (k : ℕ) → HasTerm l k ts → HasTerm l k c.terms) → ((l : ℤ) → Forces c a l → ⊥) → some_forced (slack c a) a ts ≡ false
forced-term c a [] among none = refl
forced-term c a (t ∷ ts) among none = elim (cases_Bool (is_forced (slack c a) a t)) [
  | inl e ↦ (let parts = and_parts (is_unset (value_of a t.0)) (int_lt (slack c a) (pos t.1)) e in
      absurd (none t.0 (record { coefficient = t.1; term = among t.0 t.1 (inl (refl, refl)); unset = parts.0; more = lt-of (slack c a) (pos t.1) parts.1 })))
  | inr e ↦ rw e (forced-term c a ts (λ l k h. among l k (inr h)) none)
]

pub idle-none : (c : Constraint) (a : Assignment) → IsIdle c a → (l : ℤ) → Forces c a l → ⊥
idle-none c a idle l f = omega (arith, ints, f.more, unforced-term (slack c a) a c.terms l f.coefficient idle.unforced f.term f.unset)

pub none-idle : (c : Constraint) (a : Assignment) → is_violated c a ≡ false → ((l : ℤ) → Forces c a l → ⊥) → IsIdle c a
none-idle c a sound none = record { unviolated = sound; unforced = forced-term c a c.terms (λ l k h. h) none }

-- a form is met exactly where its clauses are
pub form-clauses : (w : List Bool) (cs : List Clause) → All (IsMet w) (map clause_of cs) → list_all (meets w) cs ≡ true
form-clauses w [] h = refl
form-clauses w (c ∷ cs) h = rw (met-clause w c (All-head (IsMet w) (clause_of c) (map clause_of cs) h)) (form-clauses w cs (All-tail (IsMet w) (clause_of c) (map clause_of cs) h))

pub clauses-form : (w : List Bool) (cs : List Clause) → list_all (meets w) cs ≡ true → All (IsMet w) (map clause_of cs)
clauses-form w [] h = All-nil (IsMet w)
clauses-form w (c ∷ cs) h = let parts = and_parts (meets w c) (list_all (meets w) cs) h in All-cons (IsMet w) (clause_of c) (map clause_of cs) (clause-met w c parts.0) (clauses-form w cs parts.1)
