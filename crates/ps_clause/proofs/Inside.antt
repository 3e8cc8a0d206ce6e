-- The clauses of nodes are clauses of different literals of the nodes' variables.
use Rattle.std.proofs.Common.{◌≡◌, ℕ, zero, suc, ◌+◌, ◌<◌, ◌≤◌, ℤ, List, [], ◌∷◌, length, map, get_or, arith, refl}
use Rattle.std.specs.List.{All}
use Rattle.std.proofs.lemmas.List.{map-append}
use Rattle.std.proofs.lemmas.List.Elements.{All-nil, All-append, All-cons, All-push, All-head, All-tail}
use Rattle.ps_formula.specs.declared.node.Node.{Node}
use Rattle.ps_formula.specs.declared.node.Node.TheVariants as node
use Rattle.ps_formula.specs.Nodes.{Fits, AreNodes}
use Rattle.ps_pb.specs.Assignments.{place, AreDifferent}
use Rattle.ps_pb.specs.Constraints.{Constraint}
use Rattle.ps_pb.specs.Weights.{clause_of, IsWithin}
use Rattle.ps_pb.proofs.Within.{clause-within}
use Rattle.ps_clause.specs.Clauses.{Clause, positive, negative, meaning_of, once, is_tautology, tidy, clauses_at, clauses_from}
use Rattle.ps_clause.specs.Forms.{Form, form_of, with_clause, IsClause, HasClauses, AreInside}
use Rattle.ps_clause.proofs.Tidy.{AreClauses, by_bool}
use Rattle.ps_clause.proofs.Meanings.{are_clauses}
use Rattle.ps_clause.proofs.Different.{tidy-different, all-once}

-- a literal of one of these variables
abbrev pub In : ℕ → ℤ → Type 0
In n l = place l < n

abbrev AllIn : ℕ → Clause → Type 0
AllIn n c = All (In n) c

-- the literals, one by one
abbrev LiteralsIn : ℕ → Clause → Type 0
LiteralsIn n [] = Unit {0}
LiteralsIn n (l ∷ ls) = In n l × LiteralsIn n ls

abbrev ClausesIn : ℕ → List Clause → Type 0
ClausesIn n [] = Unit {0}
ClausesIn n (c ∷ cs) = LiteralsIn n c × ClausesIn n cs

literals_in : (n : ℕ) (c : Clause) → LiteralsIn n c → AllIn n c
literals_in n [] h = All-nil (In n)
literals_in n (l ∷ ls) h = All-cons (In n) l ls h.0 (literals_in n ls h.1)

each_in : (n : ℕ) (cs : List Clause) → ClausesIn n cs → All (AllIn n) cs
each_in n [] h = All-nil (AllIn n)
each_in n (c ∷ cs) h = All-cons (AllIn n) c cs (literals_in n c h.0) (each_in n cs h.1)

yes_in : (n i : ℕ) → i < n → In n (positive i)
yes_in n i h = omega (arith, h)

no_in : (n i : ℕ) → i < n → In n (negative i)
no_in n i h = omega (arith, h)

meaning_in : (n x : ℕ) (m : Node) → x < n → Fits x m → All (AllIn n) (meaning_of x m)
meaning_in n x node.True h f = each_in n (meaning_of x node.True) ((yes_in n x h, tt), tt)
meaning_in n x node.False h f = each_in n (meaning_of x node.False) ((no_in n x h, tt), tt)
meaning_in n x (node.Atom a) h f = All-nil (AllIn n)
meaning_in n x (node.Not a) h f =
    let p : a < n = omega (arith, h, f) in
    each_in n (meaning_of x (node.Not a)) ((yes_in n x h, (yes_in n a p, tt)), ((no_in n x h, (no_in n a p, tt)), tt))
meaning_in n x (node.And a b) h f =
    let p : a < n = omega (arith, h, f.0) in
    let q : b < n = omega (arith, h, f.1) in
    each_in n (meaning_of x (node.And a b))
    ((no_in n x h, (yes_in n a p, tt)), ((no_in n x h, (yes_in n b q, tt)), ((yes_in n x h, (no_in n a p, (no_in n b q, tt))), tt)))
meaning_in n x (node.Or a b) h f =
    let p : a < n = omega (arith, h, f.0) in
    let q : b < n = omega (arith, h, f.1) in
    each_in n (meaning_of x (node.Or a b))
    ((yes_in n x h, (no_in n a p, tt)), ((yes_in n x h, (no_in n b q, tt)), ((no_in n x h, (yes_in n a p, (yes_in n b q, tt))), tt)))
meaning_in n x (node.Implies a b) h f =
    let p : a < n = omega (arith, h, f.0) in
    let q : b < n = omega (arith, h, f.1) in
    each_in n (meaning_of x (node.Implies a b))
    ((yes_in n x h, (yes_in n a p, tt)), ((yes_in n x h, (no_in n b q, tt)), ((no_in n x h, (no_in n a p, (yes_in n b q, tt))), tt)))
meaning_in n x (node.Iff a b) h f =
    let p : a < n = omega (arith, h, f.0) in
    let q : b < n = omega (arith, h, f.1) in
    each_in n (meaning_of x (node.Iff a b)) (
      (no_in n x h, (no_in n a p, (yes_in n b q, tt))),
      (
        (no_in n x h, (yes_in n a p, (no_in n b q, tt))),
        ((yes_in n x h, (yes_in n a p, (yes_in n b q, tt))), ((yes_in n x h, (no_in n a p, (no_in n b q, tt))), tt)),
      ),
    )

-- the tidy ones among clauses of these variables
tidy_clauses : (n : ℕ) (cs : List Clause) → All (AllIn n) cs → AreClauses cs → All (IsClause n) (map clause_of (tidy cs))
tidy_clauses n [] h lits = All-nil (IsClause n)
tidy_clauses n (c ∷ cs) h lits =
    let rest = tidy_clauses n cs (All-tail (AllIn n) c cs h) lits.1 in
    by_bool (is_tautology c)
    (λ t. rw t rest)
    (λ f. rw f (All-cons (IsClause n) (clause_of (once c)) (map clause_of (tidy cs)) (record {
      lits = once c;
      is = refl;
      within = all-once (In n) c (All-head (AllIn n) c cs h);
      different = tidy-different c lits.0 f;
    }) rest))

clauses_in : (n x : ℕ) (ms : List Node) → x + length ms ≤ n → ((i : ℕ) (d : Node) → i < length ms → Fits (x + i) (get_or ms i d)) → All (IsClause n) (map clause_of (clauses_from x ms))
clauses_in n x [] h f = All-nil (IsClause n)
clauses_in n x (m ∷ ms) h f =
    let z : x + zero ≡ x = omega arith in
    let own : Fits x m = rw z at (f zero m (omega arith)) in
    rw (map-append clause_of (clauses_at x m) (clauses_from (suc x) ms))
    (All-append (IsClause n) (map clause_of (clauses_at x m)) (map clause_of (clauses_from (suc x) ms))
    (tidy_clauses n (meaning_of x m) (meaning_in n x m (omega (arith, h)) own) (are_clauses x m))
    (clauses_in n (suc x) ms (omega (arith, h)) (λ i d lt. let e : x + suc i ≡ suc x + i = omega arith in rw e at (f (suc i) d (omega (arith, lt))))))

pub nodes-clauses : (ns : List Node) → AreNodes ns → HasClauses (form_of ns)
nodes-clauses ns are = clauses_in (length ns) 0 ns (omega arith) (λ i d lt. let e : 0 + i ≡ i = omega arith in rw e (are.fit i d lt))

pub clause-more : (f : Form) (ls : List ℤ) → HasClauses f → All (λ l. place l < f.variables) ls → AreDifferent ls → HasClauses (with_clause f (clause_of ls))
clause-more f ls h within different =
    All-push (IsClause f.variables) f.clauses (clause_of ls) h (record { lits = ls; is = refl; within = within; different = different })

one_within : (n : ℕ) (c : Constraint) → IsClause n c → IsWithin n c
one_within n c h = rw h.is (clause-within n h.lits h.within)

pub clauses-inside : (f : Form) → HasClauses f → AreInside f
clauses-inside f h = λ i d lt. one_within f.variables (get_or f.clauses i d) (h i d lt)
