-- Constraints of weighted literals that are of some variables.
use Rattle.std.proofs.Common.{ℕ, zero, suc, ◌<◌, ◌≤◌, ℤ, pos, negsuc, List, [], ◌∷◌, arith}
use Rattle.std.specs.List.{All}
use Rattle.std.proofs.lemmas.List.Elements.{All-nil, All-append, All-cons}
use Rattle.ps_pb.specs.Assignments.{place}
use Rattle.ps_pb.specs.Weights.{Weighted, weighted, term_at, terms_below, last_variable, each_once, coefficient_at, constraint_of, clause_of, IsWithin}
use Rattle.ps_pb.proofs.Bounds.{weighted-append}
use Rattle.ps_pb.proofs.Full.{Below}

one_below : (n p : ℕ) (k : ℤ) → p < n → All (Below n) (weighted (term_at p k))
one_below n p (pos zero) h = All-nil (Below n)
one_below n p (pos (suc k)) h = All-cons (Below n) _ [] (omega (arith, h)) (All-nil (Below n))
one_below n p (negsuc k) h = All-cons (Below n) _ [] (omega (arith, h)) (All-nil (Below n))

terms_within : (n m : ℕ) (f : ℕ → ℤ) → m ≤ n → All (Below n) (weighted (terms_below m f))
terms_within n zero f h = All-nil (Below n)
terms_within n (suc p) f h = rw (weighted-append (terms_below p f) (term_at p (f p))) (All-append (Below n) (weighted (terms_below p f)) (weighted (term_at p (f p))) (terms_within n p f (omega (arith, h))) (one_below n p (f p) (omega (arith, h))))

last_within : (n : ℕ) (ts : Weighted) → All (Below n) ts → last_variable ts ≤ n
last_within n [] h = omega arith
last_within n (t ∷ ts) h = omega (arith, h zero t (omega arith), last_within n ts (λ k d lt. h (suc k) d (omega (arith, lt))))

-- the constraint of weighted literals of these variables
pub constraint-within : (n : ℕ) (ts : Weighted) (least : ℤ) → All (λ t. place t.0 < n) ts → IsWithin n (constraint_of ts least)
unfolding constraint_of
constraint-within n ts least h = terms_within n (last_variable ts) (coefficient_at ts) (last_within n ts h)

once_within : (n : ℕ) (ls : List ℤ) → All (λ l. place l < n) ls → All (Below n) (each_once ls)
once_within n [] h = All-nil (Below n)
once_within n (l ∷ ls) h = All-cons (Below n) (l, pos 1) (each_once ls) (h zero l (omega arith)) (once_within n ls (λ k d lt. h (suc k) d (omega (arith, lt))))

-- the clause of literals of these variables
pub clause-within : (n : ℕ) (ls : List ℤ) → All (λ l. place l < n) ls → IsWithin n (clause_of ls)
clause-within n ls h = constraint-within n (each_once ls) (pos 1) (once_within n ls h)
