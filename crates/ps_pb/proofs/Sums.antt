-- Sums of coefficients under assignments that set more.
use Rattle.std.proofs.Common.{◌≡◌, ℕ, ◌+◌, ◌≤◌, Bool, true, false, cond, not, Option, Some, None, List, [], ◌∷◌, ℤ, arith, refl, ap, ◌∙◌, inl, inr, subst}
use Rattle.ps_pb.specs.Assignments.{Assignment, value_of, is_false, holds}
use Rattle.ps_pb.specs.Constraints.{sum_where, is_open, HasTerm}
use Rattle.ps_pb.proofs.Values.{Agrees}

-- each literal that passes the first test passes the second
pub record Implies (f g : ℤ → Bool) : Type 0 where
  pub at : (l : ℤ) → f l ≡ true → g l ≡ true

-- a term that passes counts no less where it passes a weaker test
pub part : (x y : Bool) (k : ℕ) → (x ≡ true → y ≡ true) → cond x k 0 ≤ cond y k 0
part true true k h = omega arith
part true false k h = absurd (cc (h refl))
part false true k h = omega arith
part false false k h = omega arith

pub sum_where-le : (f g : ℤ → Bool) (ts : List (ℤ × ℕ)) → Implies f g → sum_where f ts ≤ sum_where g ts
sum_where-le f g [] h = omega arith
sum_where-le f g (t ∷ ts) h = omega (arith, part (f t.0) (g t.0) t.1 (h.at t.0), sum_where-le f g ts h)

pub gap_part : (x y : Bool) (k s r : ℕ) → x ≡ false → y ≡ true → s ≤ r → cond x k 0 + s + k ≤ cond y k 0 + r
gap_part true y k s r p q h = absurd (cc)
gap_part false true k s r p q h = omega arith
gap_part false false k s r p q h = absurd (cc)

-- a term that passes only the second test is the gap between the sums, or part of it
pub sum_where-gap : (f g : ℤ → Bool) (ts : List (ℤ × ℕ)) (l : ℤ) (k : ℕ) → Implies f g → HasTerm l k ts → f l ≡ false → g l ≡ true → sum_where f ts + k ≤ sum_where g ts
sum_where-gap f g [] l k h m p q = absurd m
sum_where-gap f g (t ∷ ts) l k h (inl m) p q =
    subst (λ z. sum_where f (t ∷ ts) + z ≤ sum_where g (t ∷ ts)) m.1
    (gap_part (f t.0) (g t.0) t.1 (sum_where f ts) (sum_where g ts) (ap f m.0 ∙ p) (ap g m.0 ∙ q) (sum_where-le f g ts h))
sum_where-gap f g (t ∷ ts) l k h (inr m) p q =
    omega (arith, part (f t.0) (g t.0) t.1 (h.at t.0), sum_where-gap f g ts l k h m p q)

not_false_when_true : (o : Option Bool) (x : Bool) → ((v : Bool) → o ≡ Some v → x ≡ v) → x ≡ true → not (is_false o) ≡ true
not_false_when_true None x h e = refl
not_false_when_true (Some true) x h e = refl
not_false_when_true (Some false) x h e = absurd (cc (h false refl))

-- a literal that is true in a full assignment isn't false in a partial one that agrees
pub agrees-open : (w : List Bool) (a : Assignment) → Agrees w a → Implies (holds w) (is_open a)
agrees-open w a s = record { at = λ l e. not_false_when_true (value_of a l) (holds w l) (s.at l) e }
