-- Pseudo-Boolean constraints: linear constraints over literals whose coefficients are natural numbers.
use Rattle.std.specs.Prelude.{ℕ, ◌+◌, ◌≡◌, ℤ, pos, ◌-ℤ◌, ◌<ℤ◌, ◌≤ℤ◌, int_lt, Bool}
use Rattle.std.specs.Prelude.{true, false, not, ◌&&◌, if◌then◌else◌, List, [], ◌∷◌, ◌⊎◌}
use Rattle.ps_pb.specs.Assignments.{Assignment, value_of, with_true, is_false, is_unset, holds}

-- literals with their coefficients, and what the coefficients of the true ones sum to at least
pub record Constraint : Type 0 where
  pub terms : List (ℤ × ℕ)
  pub degree : ℤ

-- the sum of the coefficients whose literals pass a test
abbrev pub sum_where : (ℤ → Bool) → List (ℤ × ℕ) → ℕ
sum_where test [] = 0
sum_where test (t ∷ ts) = (if test t.0 then t.1 else 0) + sum_where test ts

-- a full assignment meets the constraint
abbrev pub IsMet : List Bool → Constraint → Type 0
IsMet w c = c.degree ≤ℤ pos (sum_where (holds w) c.terms)

-- whether a literal is true or may become so
abbrev pub is_open : Assignment → ℤ → Bool
is_open a l = not (is_false (value_of a l))

-- the sum of the coefficients whose literals aren't false, less the degree
abbrev pub slack : Constraint → Assignment → ℤ
slack c a = pos (sum_where (is_open a) c.terms) -ℤ c.degree

-- the slack is below 0, so no full assignment with these values meets the constraint
abbrev pub is_violated : Constraint → Assignment → Bool
is_violated c a = int_lt (slack c a) (pos 0)

-- a term is forced under this slack: its literal is unset, and its coefficient is greater than the slack
abbrev pub is_forced : ℤ → Assignment → (ℤ × ℕ) → Bool
is_forced s a t = is_unset (value_of a t.0) && int_lt s (pos t.1)

-- a literal stands among the terms with this coefficient
abbrev pub HasTerm : ℤ → ℕ → List (ℤ × ℕ) → Type 0
HasTerm l k [] = ⊥
HasTerm l k (t ∷ ts) = ((t.0 ≡ l) × (t.1 ≡ k)) ⊎ HasTerm l k ts

-- the constraint forces the literal: it is one of its terms, unset, with a coefficient greater than the slack
pub record Forces (c : Constraint) (a : Assignment) (l : ℤ) : Type 0 where
  pub coefficient : ℕ
  pub term : HasTerm l coefficient c.terms
  pub unset : is_unset (value_of a l) ≡ true
  pub more : slack c a <ℤ pos coefficient

-- whether one of the terms is forced
abbrev pub some_forced : ℤ → Assignment → List (ℤ × ℕ) → Bool
some_forced s a [] = false
some_forced s a (t ∷ ts) = if is_forced s a t then true else some_forced s a ts

-- each forced literal set true
abbrev pub with_forced : ℤ → List (ℤ × ℕ) → Assignment → Assignment
with_forced s [] a = a
with_forced s (t ∷ ts) a = with_forced s ts (if is_forced s a t then with_true a t.0 else a)

-- the constraint's literals that are false in the first assignment are false in the second
pub record Covers (c : Constraint) (a b : Assignment) : Type 0 where
  pub at : (l : ℤ) (k : ℕ) → HasTerm l k c.terms → is_open b l ≡ true → is_open a l ≡ true
