-- Full assignments, as partial ones in which each variable has a value.
use Rattle.std.proofs.Common.{◌≡◌, ◌≢◌, ℕ, zero, suc, ◌<◌, ◌≤◌, ℤ, pos, ◌≤ℤ◌, Bool, true, false, not, Option, Some, None, List, [], ◌∷◌, length, get_or, arith, refl, sym, ap, ◌∙◌, subst, inl, inr}
use Rattle.std.specs.Prelude.{int_lt}
use Rattle.std.specs.List.{All}
use Rattle.std.proofs.lemmas.Int.{ints}
use Rattle.ps_pb.specs.Assignments.{Assignment, place, is_positive, agree, value_of, value_at, is_unset, holds, full, values_of, IsComplete}
use Rattle.ps_pb.specs.Constraints.{Constraint, sum_where, is_open, HasTerm, IsMet, slack, is_violated}
use Rattle.ps_pb.specs.Weights.{weighted, IsWithin}

full_by : (a : Assignment) → ((i : ℕ) → i < length a → get_or a i None ≢ None) → a ≡ full (values_of a)
full_by [] h = refl
full_by (None ∷ a) h = absurd (h zero (omega arith) refl)
full_by (Some b ∷ a) h = ap (λ r. Some b ∷ r) (full_by a (λ i k. h (suc i) (omega (arith, k))))

is_some : (o : Option Bool) → is_unset o ≡ false → o ≢ None
is_some None h = λ e. absurd (cc)
is_some (Some b) h = λ e. absurd (cc)

at_suc : (a : Assignment) (p : ℕ) → value_at a (suc p) ≡ get_or a p None
unfolding value_at
at_suc a p = refl

pub complete-full : (a : Assignment) → IsComplete a → a ≡ full (values_of a)
complete-full a s = full_by a (λ i k. is_some (get_or a i None) (ap is_unset (sym (at_suc a i)) ∙ s.at (suc i) (omega arith) (omega (arith, k))))

pub values-full : (w : List Bool) → values_of (full w) ≡ w
values-full [] = refl
values-full (b ∷ w) = ap (λ r. b ∷ r) (values-full w)

value_full : (w : List Bool) (i : ℕ) → i < length w → get_or (full w) i None ≡ Some (get_or w i false)
value_full [] i h = absurd (omega arith)
value_full (b ∷ w) zero h = refl
value_full (b ∷ w) (suc i) h = value_full w i (omega (arith, h))

pub length-full : (w : List Bool) → length (full w) ≡ length w
length-full [] = refl
length-full (b ∷ w) = ap suc (length-full w)

some_set : (o : Option Bool) (b : Bool) → o ≡ Some b → is_unset o ≡ false
some_set o b e = rw e refl

pub full-complete : (w : List Bool) → IsComplete (full w)
full-complete w = record { at = by_var }
  where
    by_var : (var : ℕ) → 0 < var → var ≤ length (full w) → is_unset (value_at (full w) var) ≡ false
    by_var zero h m = absurd (omega (arith, h))
    by_var (suc p) h m = some_set _ _ (at_suc (full w) p ∙ value_full w p (omega (arith, m, length-full w)))

pub full-is-complete : (a : Assignment) → a ≡ full (values_of a) → IsComplete a
full-is-complete a e = subst IsComplete (sym e) (full-complete (values_of a))

not_not : (b : Bool) → not (not b) ≡ b
not_not true = refl
not_not false = refl

open_holds : (w : List Bool) (l : ℤ) → place l < length w → is_open (full w) l ≡ holds w l
unfolding value_of holds
open_holds w l h = rw (value_full w (place l) h) (not_not (agree (is_positive l) (get_or w (place l) false)))

abbrev pub Below : ℕ → (ℤ × ℤ) → Type 0
Below n t = place t.0 < n

pub all-head : (n : ℕ) (t : ℤ × ℕ) (ts : List (ℤ × ℕ)) → All (Below n) (weighted (t ∷ ts)) → place t.0 < n
all-head n t ts h = h zero (t.0, pos t.1) (omega arith)

pub all-rest : (n : ℕ) (t : ℤ × ℕ) (ts : List (ℤ × ℕ)) → All (Below n) (weighted (t ∷ ts)) → All (Below n) (weighted ts)
all-rest n t ts h = λ k d lt. h (suc k) d (omega (arith, lt))

same_sums : (w : List Bool) (ts : List (ℤ × ℕ)) → All (Below (length w)) (weighted ts) → sum_where (is_open (full w)) ts ≡ sum_where (holds w) ts
same_sums w [] h = refl
same_sums w (t ∷ ts) h = rw (open_holds w t.0 (all-head (length w) t ts h), same_sums w ts (all-rest (length w) t ts h)) refl

not_less : (a b : ℤ) → int_lt a b ≡ false → b ≤ℤ a
not_less a b h = grind (arith, ints)

less_not : (a b : ℤ) → b ≤ℤ a → int_lt a b ≡ false
less_not a b h = grind (arith, ints)

-- a full assignment meets what isn't violated
pub full-met : (w : List Bool) (c : Constraint) → IsWithin (length w) c → is_violated c (full w) ≡ false → IsMet w c
full-met w c h v = let n = not_less (slack c (full w)) (pos 0) v in omega (arith, ints, n, same_sums w c.terms h)

pub met-full : (w : List Bool) (c : Constraint) → IsWithin (length w) c → IsMet w c → is_violated c (full w) ≡ false
met-full w c h m = less_not (slack c (full w)) (pos 0) (omega (arith, ints, m, same_sums w c.terms h))

-- terms are of these variables
term_within : (n : ℕ) (l : ℤ) (k : ℕ) (ts : List (ℤ × ℕ)) → All (Below n) (weighted ts) → HasTerm l k ts → place l < n
term_within n l k [] h t = absurd t
term_within n l k (t ∷ ts) h (inl e) = subst (λ x. place x < n) e.0 (all-head n t ts h)
term_within n l k (t ∷ ts) h (inr m) = term_within n l k ts (all-rest n t ts h) m

pub term-within : (n : ℕ) (c : Constraint) (l : ℤ) (k : ℕ) → IsWithin n c → HasTerm l k c.terms → place l < n
term-within n c l k h t = term_within n l k c.terms h t
