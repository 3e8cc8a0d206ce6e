-- Sums of weighted literals, the constraint that bounds one from below, and clauses.
use Rattle.std.specs.Prelude.{ℕ, zero, suc, ◌+◌, ◌≡◌, ◌≤◌, ◌<◌, ◌==◌, nat_lt, max, ℤ, pos, negsuc, ◌+ℤ◌}
use Rattle.std.specs.Prelude.{◌-ℤ◌, neg_ℤ, ◌≤ℤ◌, Bool, true, ◌&&◌, if◌then◌else◌, List, [], ◌∷◌, ◌++◌, map, All, unsigned_abs}
use Rattle.ps_pb.specs.declared.limits.TheConstants.{MOST_SIZE}
use Rattle.ps_pb.specs.Assignments.{place, is_positive, holds}
use Rattle.ps_pb.specs.Constraints.{Constraint}

-- literals with whole weights, in which a literal may stand more than once
abbrev pub Weighted : Type 0
Weighted = List (ℤ × ℤ)

-- the weight of the true literals
abbrev pub true_weight : List Bool → Weighted → ℤ
true_weight w [] = pos 0
true_weight w (t ∷ ts) = (if holds w t.0 then t.1 else pos 0) +ℤ true_weight w ts

-- the sum of the sizes of the weights
abbrev pub size_sum : Weighted → ℕ
size_sum [] = 0
size_sum (t ∷ ts) = unsigned_abs t.1 + size_sum ts

-- a negative literal counts 1 less its variable, so that a sum of weighted literals is a constant and a sum over variables:
-- the part of one weighted literal in the constant
abbrev pub constant_part : (ℤ × ℤ) → ℤ
constant_part t = if is_positive t.0 then pos 0 else t.1

-- the constant of a sum of weighted literals
abbrev pub constant_of : Weighted → ℤ
constant_of [] = pos 0
constant_of (t ∷ ts) = constant_part t +ℤ constant_of ts

-- the part of a weighted literal in the coefficient of its variable
abbrev pub variable_part : (ℤ × ℤ) → ℤ
variable_part t = if is_positive t.0 then t.1 else neg_ℤ t.1

-- the coefficient of the variable at a place
abbrev pub coefficient_at : Weighted → ℕ → ℤ
coefficient_at [] p = pos 0
coefficient_at (t ∷ ts) p = (if place t.0 == p then variable_part t else pos 0) +ℤ coefficient_at ts p

-- the term of the variable at a place: none where its coefficient is 0, and on the negative literal where it is below 0
abbrev pub term_at : ℕ → ℤ → List (ℤ × ℕ)
term_at p (pos zero) = []
term_at p (pos (suc k)) = (pos (suc p), suc k) ∷ []
term_at p (negsuc k) = (negsuc p, suc k) ∷ []

-- what the degree grows by where a term is put on the negative literal
abbrev pub turned : ℤ → ℤ
turned (pos k) = pos 0
turned (negsuc k) = pos (suc k)

-- the terms of the variables below a place, by rising variable
abbrev pub terms_below : ℕ → (ℕ → ℤ) → List (ℤ × ℕ)
terms_below zero f = []
terms_below (suc p) f = terms_below p f ++ term_at p (f p)

-- the sum of a function over the numbers below n
abbrev pub sum_below : ℕ → (ℕ → ℤ) → ℤ
sum_below zero f = pos 0
sum_below (suc p) f = sum_below p f +ℤ f p

-- the number of the last variable
abbrev pub last_variable : Weighted → ℕ
last_variable [] = 0
last_variable (t ∷ ts) = max (suc (place t.0)) (last_variable ts)

-- the weights of the true literals sum to at least `least`: like variables added, zero coefficients dropped, and a negative
-- coefficient turned into a positive one on the opposite literal
unfoldable pub constraint_of : Weighted → ℤ → Constraint
constraint_of ts least = record {
  terms = terms_below (last_variable ts) (coefficient_at ts);
  degree = (least -ℤ constant_of ts) +ℤ sum_below (last_variable ts) (λ p. turned (coefficient_at ts p));
}

-- literals of weight 1
abbrev pub each_once : List ℤ → Weighted
each_once lits = map (λ l. (l, pos 1)) lits

-- the clause of some literals: at least one of them is true
abbrev pub clause_of : List ℤ → Constraint
clause_of lits = constraint_of (each_once lits) (pos 1)

-- terms as weighted literals
abbrev pub weighted : List (ℤ × ℕ) → Weighted
weighted ts = map (λ t. (t.0, pos t.1)) ts

-- the literals of a constraint are of these variables
abbrev pub IsWithin : ℕ → Constraint → Type 0
IsWithin variables c = All (λ t. place t.0 < variables) (weighted c.terms)

-- at least one literal is true: the degree and each coefficient are 1
pub record IsPlain (c : Constraint) : Type 0 where
  pub degree : c.degree ≡ pos 1
  pub coefficients : All (λ t. t.1 ≡ 1) c.terms

-- a weighted literal as a term
abbrev pub term_of : (ℤ × ℤ) → ℤ × ℕ
term_of t = (t.0, unsigned_abs t.1)

-- weighted literals as terms
abbrev pub terms_of : Weighted → List (ℤ × ℕ)
terms_of ts = map term_of ts

-- the variables rise, each of them above this number
abbrev pub are_rising : ℕ → Weighted → Bool
are_rising above [] = true
are_rising above (t ∷ ts) = nat_lt above (unsigned_abs t.0) && are_rising (unsigned_abs t.0) ts

-- the form in which constraints are kept: coefficients of at least 1, rising variables, and sums that fit
pub record IsNormal (terms : Weighted) (degree : ℤ) : Type 0 where
  pub positive : All (λ t. pos 1 ≤ℤ t.1) terms
  pub rising : are_rising 0 terms ≡ true
  pub narrow : (size_sum terms + unsigned_abs degree) ≤ MOST_SIZE
