-- A sum of weighted literals as a constant and a sum over variables, and the constraint that bounds it.
use Rattle.std.proofs.Common.{◌≡◌, ◌≢◌, ℕ, zero, suc, ◌+◌, ◌-◌, ◌<◌, ◌≤◌, ℤ, pos, negsuc, ◌+ℤ◌, ◌-ℤ◌, neg_ℤ, ◌≤ℤ◌, Bool, true, false, cond, not, List, [], ◌∷◌, ◌++◌, get_or, arith, refl, sym, inl, inr}
use Rattle.std.specs.Prelude.{◌==◌}
use Rattle.std.proofs.lemmas.Int.{ints}
use Rattle.std.proofs.lemmas.Bool.{cases_eq}
use Rattle.ps_pb.specs.Assignments.{place, is_positive, agree, holds}
use Rattle.ps_pb.specs.Constraints.{sum_where, IsMet}
use Rattle.ps_pb.specs.Weights.{Weighted, true_weight, constant_of, variable_part, coefficient_at, term_at, turned, terms_below, sum_below, last_variable, constraint_of}

-- two functions that differ at most at one place
pub record DiffersAt (q : ℕ) (f g : ℕ → ℤ) : Type 0 where
  pub elsewhere : (p : ℕ) → p ≢ q → f p ≡ g p

pub sum_below-past : (n q : ℕ) (f g : ℕ → ℤ) → DiffersAt q f g → n ≤ q → sum_below n f ≡ sum_below n g
sum_below-past zero q f g d h = refl
sum_below-past (suc p) q f g d h = omega (arith, ints, sum_below-past p q f g d (omega arith), d.elsewhere p (omega arith))

pub sum_below-change : (n q : ℕ) (f g : ℕ → ℤ) → DiffersAt q f g → q < n → sum_below n f ≡ sum_below n g +ℤ (f q -ℤ g q)
sum_below-change zero q f g d h = absurd (omega arith)
sum_below-change (suc p) q f g d h = elim (cases_eq p q) [
  | inl e ↦ rw e (omega (arith, ints, sum_below-past q q f g d (omega arith)))
  | inr ne ↦ omega (arith, ints, sum_below-change p q f g d (omega arith), d.elsewhere p ne)
]

pub record IsZero (f : ℕ → ℤ) : Type 0 where
  pub at : (p : ℕ) → f p ≡ pos 0

pub sum_below-zero : (n : ℕ) (f : ℕ → ℤ) → IsZero f → sum_below n f ≡ pos 0
sum_below-zero zero f z = refl
sum_below-zero (suc p) f z = omega (arith, ints, sum_below-zero p f z, z.at p)

-- a coefficient, where its variable is true
abbrev pub if_true : List Bool → (ℕ → ℤ) → ℕ → ℤ
if_true w f p = cond (get_or w p false) (f p) (pos 0)

eq_test-false : (i j : ℕ) → i ≢ j → (i == j) ≡ false
eq_test-false i j h = grind arith

eq_test-true : (i : ℕ) → (i == i) ≡ true
eq_test-true i = grind arith

-- one weighted literal more changes the coefficient of its variable alone
pub coefficient-elsewhere : (t : ℤ × ℤ) (ts : Weighted) (p : ℕ) → p ≢ place t.0 → coefficient_at (t ∷ ts) p ≡ coefficient_at ts p
coefficient-elsewhere t ts p h = rw (eq_test-false (place t.0) p (λ e. h (sym e))) (omega (arith, ints))

pub coefficient-own : (t : ℤ × ℤ) (ts : Weighted) → coefficient_at (t ∷ ts) (place t.0) ≡ variable_part t +ℤ coefficient_at ts (place t.0)
coefficient-own t ts = rw (eq_test-true (place t.0)) refl

true_part : (p x : Bool) (k c d : ℤ) → d ≡ cond p k (neg_ℤ k) +ℤ c → (cond p (pos 0) k +ℤ (cond x d (pos 0) -ℤ cond x c (pos 0))) ≡ cond (agree p x) k (pos 0)
true_part true true k c d e = omega (arith, ints)
true_part true false k c d e = omega (arith, ints)
true_part false true k c d e = omega (arith, ints)
true_part false false k c d e = omega (arith, ints)

same_if : (x : Bool) (c d : ℤ) → d ≡ c → cond x d (pos 0) ≡ cond x c (pos 0)
same_if x c d e = rw e refl

zero_if : (x : Bool) → cond x (pos 0) (pos 0) ≡ pos 0
zero_if true = refl
zero_if false = refl

-- the weight of the true literals is the constant and the coefficients of the true variables
pub true_weight-linear : (w : List Bool) (ts : Weighted) (n : ℕ) → last_variable ts ≤ n → true_weight w ts ≡ constant_of ts +ℤ sum_below n (if_true w (coefficient_at ts))
unfolding holds
true_weight-linear w [] n h = omega (arith, ints, sum_below-zero n (if_true w (coefficient_at [])) (record { at = λ p. zero_if (get_or w p false) }))
true_weight-linear w (t ∷ ts) n h =
    let q = place t.0 in
    let f = if_true w (coefficient_at (t ∷ ts)) in
    let g = if_true w (coefficient_at ts) in
    let d : DiffersAt q f g = record { elsewhere = λ p ne. same_if (get_or w p false) _ _ (coefficient-elsewhere t ts p ne) } in
    let change = sum_below-change n q f g d (omega arith) in
    let part = true_part (is_positive t.0) (get_or w q false) t.1 (coefficient_at ts q) (coefficient_at (t ∷ ts) q) (coefficient-own t ts) in
    let rest = true_weight-linear w ts n (omega arith) in
    omega (arith, ints, change, part, rest)

pub sum_where-append : (f : ℤ → Bool) (ts us : List (ℤ × ℕ)) → sum_where f (ts ++ us) ≡ sum_where f ts + sum_where f us
sum_where-append f [] us = omega arith
sum_where-append f (t ∷ ts) us = omega (arith, sum_where-append f ts us)

true_term : (x y : Bool) (k : ℕ) → y ≡ x → pos (cond y k 0 + 0) ≡ (pos 0 +ℤ cond x (pos k) (pos 0))
true_term true y k e = rw e (omega (arith, ints))
true_term false y k e = rw e (omega (arith, ints))

turned_term : (x y : Bool) (k : ℕ) → y ≡ not x → pos (cond y (suc k) 0 + 0) ≡ (pos (suc k) +ℤ cond x (negsuc k) (pos 0))
turned_term true y k e = rw e (omega (arith, ints))
turned_term false y k e = rw e (omega (arith, ints))

pub agree-true : (x : Bool) → agree true x ≡ x
agree-true true = refl
agree-true false = refl

pub agree-false : (x : Bool) → agree false x ≡ not x
agree-false true = refl
agree-false false = refl

-- the term of a variable is worth its coefficient where it is true, and what was turned
pub term-worth : (w : List Bool) (p : ℕ) (k : ℤ) → pos (sum_where (holds w) (term_at p k)) ≡ turned k +ℤ cond (get_or w p false) k (pos 0)
unfolding holds
term-worth w p (pos zero) = omega (arith, ints, zero_if (get_or w p false))
term-worth w p (pos (suc k)) = let e : suc p - 1 ≡ p = omega arith in true_term (get_or w p false) _ (suc k) (rw e (agree-true (get_or w p false)))
term-worth w p (negsuc k) = let e : suc p - 1 ≡ p = omega arith in turned_term (get_or w p false) _ k (rw e (agree-false (get_or w p false)))

pub terms_below-worth : (w : List Bool) (n : ℕ) (f : ℕ → ℤ) → pos (sum_where (holds w) (terms_below n f)) ≡ sum_below n (λ p. turned (f p)) +ℤ sum_below n (if_true w f)
terms_below-worth w zero f = omega (arith, ints)
terms_below-worth w (suc p) f = omega (arith, ints, sum_where-append (holds w) (terms_below p f) (term_at p (f p)), terms_below-worth w p f, term-worth w p (f p))

-- the constraint of weights is met exactly where the true literals weigh at least so much
pub met-weight : (w : List Bool) (ts : Weighted) (least : ℤ) → IsMet w (constraint_of ts least) → least ≤ℤ true_weight w ts
unfolding constraint_of
met-weight w ts least m = omega (arith, ints, m, terms_below-worth w (last_variable ts) (coefficient_at ts), true_weight-linear w ts (last_variable ts) (omega arith))

pub weight-met : (w : List Bool) (ts : Weighted) (least : ℤ) → least ≤ℤ true_weight w ts → IsMet w (constraint_of ts least)
unfolding constraint_of
weight-met w ts least m = omega (arith, ints, m, terms_below-worth w (last_variable ts) (coefficient_at ts), true_weight-linear w ts (last_variable ts) (omega arith))
