-- One more node, and how many clauses there are.
use Rattle.std.proofs.Common.{◌≡◌, ℕ, zero, suc, ◌+◌, ◌-◌, ◌*◌, ◌<◌, ◌≤◌, Bool, true, false, List, [], ◌∷◌, ◌++◌, length, map, take, get_or, refl, sym, ap, append_assoc, arith}
use Rattle.std.specs.Prelude.{nat_lt, slice_get, None}
use Rattle.std.proofs.lemmas.List.{length-append, length-map, map-append, take_more, length-take, length-take-le}
use Rattle.ps_formula.specs.declared.node.Node.{Node}
use Rattle.ps_formula.specs.declared.node.Node.TheVariants as node
use Rattle.ps_pb.specs.Weights.{clause_of}
use Rattle.ps_clause.specs.Clauses.{Clause, is_tautology, meaning_of, tidy, clauses_at, clauses_from, clause_form}
use Rattle.ps_clause.specs.Forms.{Form, is_atom_variable}
use Rattle.ps_clause.proofs.Tidy.{by_bool}

from-push : (x : ℕ) (ns : List Node) (n : Node) → clauses_from x (ns ++ n ∷ []) ≡ clauses_from x ns ++ clauses_at (x + length ns) n
from-push x [] n = let e : x + 0 ≡ x = omega arith in rw e (append-nil (clauses_at x n))
  where
    append-nil : (cs : List Clause) → cs ++ [] ≡ cs
    append-nil [] = refl
    append-nil (c ∷ cs) = ap (λ r. c ∷ r) (append-nil cs)
from-push x (m ∷ ms) n =
    let e : x + length (m ∷ ms) ≡ suc x + length ms = omega arith in
    rw (e, from-push (suc x) ms n) (sym (append_assoc (clauses_at x m) (clauses_from (suc x) ms) (clauses_at (suc x + length ms) n)))

-- the constraints of one node more
pub form_more : (ns : List Node) (i : ℕ) (d : Node) → i < length ns
    → map clause_of (clause_form (take (i + 1) ns)) ≡ map clause_of (clause_form (take i ns)) ++ map clause_of (clauses_at i (get_or ns i d))
form_more ns i d lt =
    let e : 0 + length (take i ns) ≡ i = omega (arith, length-take-le i ns (omega arith)) in
    rw (take_more ns i d lt, from-push 0 (take i ns) (get_or ns i d), e) (map-append clause_of (clause_form (take i ns)) (clauses_at i (get_or ns i d)))

pub take_few : (ns : List Node) (i : ℕ) → length (take i ns) ≤ length ns
take_few ns i = omega (arith, length-take i ns)

kept-length : (cs : List Clause) → length (tidy cs) ≤ length cs
kept-length [] = omega arith
kept-length (c ∷ cs) = by_bool (is_tautology c)
    (λ t. rw t (omega (arith, kept-length cs)))
    (λ f. rw f (omega (arith, kept-length cs)))

meaning-length : (i : ℕ) (n : Node) → length (meaning_of i n) ≤ 4
meaning-length i node.True = omega arith
meaning-length i node.False = omega arith
meaning-length i (node.Atom n) = omega arith
meaning-length i (node.Not a) = omega arith
meaning-length i (node.And a b) = omega arith
meaning-length i (node.Or a b) = omega arith
meaning-length i (node.Implies a b) = omega arith
meaning-length i (node.Iff a b) = omega arith

from-length : (x : ℕ) (ns : List Node) → length (clauses_from x ns) ≤ 4 * length ns
from-length x [] = omega arith
from-length x (n ∷ ns) = omega (arith, from-length (suc x) ns, length-append (clauses_at x n) (clauses_from (suc x) ns), kept-length (meaning_of x n), meaning-length x n)

pub form_length : (ns : List Node) → length (map clause_of (clause_form ns)) ≤ 4 * length ns
form_length ns = omega (arith, length-map (clause_form ns) clause_of, from-length 0 ns)

test : (p n : ℕ) → p < n → nat_lt p n ≡ true
test p n h = grind (arith, h)

none_past : (xs : List Bool) (i : ℕ) → slice_get xs i ≡ None → get_or xs i false ≡ false
none_past [] i e = refl
none_past (x ∷ xs) zero e = absurd (cc)
none_past (x ∷ xs) (suc i) e = none_past xs i e

-- a variable past the marks is an atom's
pub unmarked : (f : Form) (var : ℕ) → 0 < var → var ≤ f.variables → slice_get f.others (var - 1) ≡ None → is_atom_variable f var ≡ true
unmarked f zero positive within past = absurd (omega arith)
unmarked f (suc p) positive within past =
    let e : suc p - 1 ≡ p = omega arith in
    rw (test p f.variables (omega arith), none_past f.others p (rw e at past)) refl
