-- The terms of a clause are its literals.
use Rattle.std.proofs.Common.{◌≡◌, ◌≢◌, ℕ, zero, suc, ◌-◌, ◌<◌, ◌≤◌, ℤ, pos, negsuc, ◌+ℤ◌, neg_ℤ, Bool, true, false, cond, List, [], ◌∷◌, ◌++◌, length, get_or, arith, refl, sym, ap, ◌∙◌, subst, ◌⊎◌, inl, inr}
use Rattle.std.specs.Prelude.{unsigned_abs, Contains, All}
use Rattle.std.proofs.lemmas.Int.{ints}
use Rattle.std.proofs.lemmas.Bool.{cases_eq}
use Rattle.std.proofs.lemmas.List.Elements.{All-contains}
use Rattle.ps_pb.specs.Assignments.{place, is_positive, literal_at, AreDifferent}
use Rattle.ps_pb.specs.Constraints.{HasTerm}
use Rattle.ps_pb.specs.Weights.{coefficient_at, term_at, terms_below, last_variable, constraint_of, each_once, clause_of}
use Rattle.ps_pb.proofs.Linear.{coefficient-elsewhere, coefficient-own}
use Rattle.ps_pb.proofs.Clauses.{HasNoneAt, Differ, different-differ, none-zero}

-- ---- elements
pub contains-here : (l : ℤ) (ls : List ℤ) → Contains (l ∷ ls) l
contains-here l ls = (zero, omega arith, refl)

pub contains-later : (m : ℤ) (ls : List ℤ) (l : ℤ) → Contains ls l → Contains (m ∷ ls) l
contains-later m ls l h = (suc h.0, omega (arith, h.1), h.2)

contains_at : (m : ℤ) (ls : List ℤ) (l : ℤ) (k : ℕ) → k < length (m ∷ ls) → get_or (m ∷ ls) k l ≡ l → (m ≡ l) ⊎ Contains ls l
contains_at m ls l zero h e = inl e
contains_at m ls l (suc k) h e = inr (k, omega (arith, h), e)

pub contains-cases : (m : ℤ) (ls : List ℤ) (l : ℤ) → Contains (m ∷ ls) l → (m ≡ l) ⊎ Contains ls l
contains-cases m ls l h = contains_at m ls l h.0 h.1 h.2

pub contains-none : (l : ℤ) → Contains [] l → ⊥
contains-none l h = absurd (let k = h.1 in omega (arith, k))

-- ---- terms of a list and of another
pub term-left : (l : ℤ) (k : ℕ) (ts us : List (ℤ × ℕ)) → HasTerm l k ts → HasTerm l k (ts ++ us)
term-left l k [] us h = absurd h
term-left l k (t ∷ ts) us (inl e) = inl e
term-left l k (t ∷ ts) us (inr h) = inr (term-left l k ts us h)

pub term-right : (l : ℤ) (k : ℕ) (ts us : List (ℤ × ℕ)) → HasTerm l k us → HasTerm l k (ts ++ us)
term-right l k [] us h = h
term-right l k (t ∷ ts) us h = inr (term-right l k ts us h)

pub term-either : (l : ℤ) (k : ℕ) (ts us : List (ℤ × ℕ)) → HasTerm l k (ts ++ us) → HasTerm l k ts ⊎ HasTerm l k us
term-either l k [] us h = inr h
term-either l k (t ∷ ts) us (inl e) = inl (inl e)
term-either l k (t ∷ ts) us (inr h) = elim (term-either l k ts us h) [ inl p ↦ inl (inr p) | inr q ↦ inr q ]

has_below : (n p : ℕ) (f : ℕ → ℤ) (l : ℤ) (k : ℕ) → p < n → HasTerm l k (term_at p (f p)) → HasTerm l k (terms_below n f)
has_below zero p f l k h t = absurd (omega (arith, h))
has_below (suc n) p f l k h t = elim (cases_eq p n) [
  | inl e ↦ term-right l k (terms_below n f) (term_at n (f n)) (rw (← e) t)
  | inr ne ↦ term-left l k (terms_below n f) (term_at n (f n)) (has_below n p f l k (omega (arith, h, ne)) t)
]

-- the place at which a term stands
pub record TermAt (f : ℕ → ℤ) (l : ℤ) (k : ℕ) : Type 0 where
  pub place : ℕ
  pub there : HasTerm l k (term_at place (f place))

below_has : (n : ℕ) (f : ℕ → ℤ) (l : ℤ) (k : ℕ) → HasTerm l k (terms_below n f) → TermAt f l k
below_has zero f l k h = absurd h
below_has (suc n) f l k h = elim (term-either l k (terms_below n f) (term_at n (f n)) h) [
  | inl p ↦ below_has n f l k p
  | inr q ↦ record { place = n; there = q }
]

-- ---- clauses
-- the coefficient of a literal's variable
none_there : (p : ℕ) (ls : List ℤ) (l : ℤ) → HasNoneAt p ls → Contains ls l → place l ≢ p
none_there p [] l n h = absurd (contains-none l h)
none_there p (m ∷ ls) l n h = elim (contains-cases m ls l h) [
  | inl e ↦ (λ q. n.0 (ap place e ∙ q))
  | inr r ↦ none_there p ls l n.1 r
]

signed_unit : (b : Bool) → cond b (pos 1) (neg_ℤ (pos 1)) ≡ cond b (pos 1) (negsuc 0)
signed_unit true = refl
signed_unit false = refl

plus_zero : (k z : ℤ) → z ≡ pos 0 → k +ℤ z ≡ k
plus_zero k z e = omega (arith, ints, e)

own_unit : (l : ℤ) (ls : List ℤ) → HasNoneAt (place l) ls → coefficient_at (each_once (l ∷ ls)) (place l) ≡ cond (is_positive l) (pos 1) (negsuc 0)
own_unit l ls h = coefficient-own (l, pos 1) (each_once ls) ∙ plus_zero _ _ (none-zero (place l) ls h) ∙ signed_unit (is_positive l)

same_sign : (m l : ℤ) (ls : List ℤ) → m ≡ l → coefficient_at (each_once (m ∷ ls)) (place m) ≡ cond (is_positive m) (pos 1) (negsuc 0) → coefficient_at (each_once (m ∷ ls)) (place l) ≡ cond (is_positive l) (pos 1) (negsuc 0)
same_sign m l ls e h = subst (λ x. coefficient_at (each_once (m ∷ ls)) (place x) ≡ cond (is_positive x) (pos 1) (negsuc 0)) e h

own_sign : (ls : List ℤ) (l : ℤ) → Differ ls → Contains ls l → coefficient_at (each_once ls) (place l) ≡ cond (is_positive l) (pos 1) (negsuc 0)
own_sign [] l d h = absurd (contains-none l h)
own_sign (m ∷ ls) l d h = elim (contains-cases m ls l h) [
  | inl e ↦ same_sign m l ls e (own_unit m ls d.0)
  | inr r ↦ coefficient-elsewhere (m, pos 1) (each_once ls) (place l) (none_there (place m) ls l d.0 r) ∙ own_sign ls l d.1 r
]

unit_term : (p : ℕ) (b : Bool) (k : ℤ) → k ≡ cond b (pos 1) (negsuc 0) → HasTerm (literal_at p b) 1 (term_at p k)
unit_term p true k e = rw e (inl (refl, refl))
unit_term p false k e = rw e (inl (refl, refl))

variable_below : (ls : List ℤ) (l : ℤ) → Contains ls l → place l < last_variable (each_once ls)
variable_below [] l h = absurd (contains-none l h)
variable_below (m ∷ ls) l h = elim (contains-cases m ls l h) [
  | inl e ↦ (let q : place m ≡ place l = ap place e in omega (arith, q))
  | inr r ↦ omega (arith, variable_below ls l r)
]

-- each literal of a clause has a term
pub clause-has : (ls : List ℤ) (l : ℤ) → AreDifferent ls → Contains ls l → HasTerm (literal_at (place l) (is_positive l)) 1 (clause_of ls).terms
unfolding constraint_of
clause-has ls l d h =
    has_below (last_variable (each_once ls)) (place l) (coefficient_at (each_once ls)) (literal_at (place l) (is_positive l)) 1 (variable_below ls l h)
    (unit_term (place l) (is_positive l) (coefficient_at (each_once ls) (place l)) (own_sign ls l (different-differ ls d) h))

pub literal-same : (l : ℤ) → 1 ≤ unsigned_abs l → literal_at (place l) (is_positive l) ≡ l
literal-same (pos zero) h = absurd (omega (arith, h))
literal-same (pos (suc n)) h = ap (λ p. pos (suc p)) (less n)
  where
    less : (n : ℕ) → suc n - 1 ≡ n
    less n = omega arith
literal-same (negsuc n) h = ap negsuc (less n)
  where
    less : (n : ℕ) → suc n - 1 ≡ n
    less n = omega arith

-- a literal of the variable at a place, or there is none
some_at : (p : ℕ) (ls : List ℤ) → HasNoneAt p ls ⊎ ((l : ℤ) × Contains ls l × (place l ≡ p))
some_at p [] = inl tt
some_at p (l ∷ ls) = elim (cases_eq (place l) p) [
  | inl e ↦ inr (l, contains-here l ls, e)
  | inr ne ↦ elim (some_at p ls) [
    | inl none ↦ inl (ne, none)
    | inr s ↦ inr (s.0, contains-later l ls s.0 s.1, s.2)
  ]
]

unit_is : (p : ℕ) (b : Bool) (k : ℤ) (l : ℤ) (n : ℕ) → k ≡ cond b (pos 1) (negsuc 0) → HasTerm l n (term_at p k) → literal_at p b ≡ l
unit_is p true k l n e h = one_of (rw e at h)
  where
    one_of : HasTerm l n (term_at p (pos 1)) → literal_at p true ≡ l
    one_of (inl q) = q.0
    one_of (inr h) = absurd h
unit_is p false k l n e h = one_of (rw e at h)
  where
    one_of : HasTerm l n (term_at p (negsuc 0)) → literal_at p false ≡ l
    one_of (inl q) = q.0
    one_of (inr h) = absurd h

no_term : (p : ℕ) (k l : ℤ) (n : ℕ) → k ≡ pos 0 → HasTerm l n (term_at p k) → ⊥
no_term p k l n e h = rw e at h

-- each term of a clause is of one of its literals
pub has-clause : (ls : List ℤ) (l : ℤ) (k : ℕ) → AreDifferent ls → All (λ m. 1 ≤ unsigned_abs m) ls → HasTerm l k (clause_of ls).terms → Contains ls l
unfolding constraint_of
has-clause ls l k d some h =
    let differ = different-differ ls d in
    let t = below_has (last_variable (each_once ls)) (coefficient_at (each_once ls)) l k h in
    elim (some_at t.place ls) [
      | inl none ↦ absurd (no_term t.place (coefficient_at (each_once ls) t.place) l k (none-zero t.place ls none) t.there)
      | inr s ↦ (let own = ap (coefficient_at (each_once ls)) (sym s.2) ∙ own_sign ls s.0 differ s.1 in
          let q : literal_at t.place (is_positive s.0) ≡ l = unit_is t.place (is_positive s.0) _ l k own t.there in
          let same : s.0 ≡ l = sym (literal-same s.0 (All-contains (λ m. 1 ≤ unsigned_abs m) ls s.0 some s.1)) ∙ ap (λ p. literal_at p (is_positive s.0)) s.2 ∙ q in
          rw (← same) s.1)
    ]
