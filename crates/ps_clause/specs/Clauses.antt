-- The clause form of a list of nodes, in which each node has a variable.
use Rattle.std.specs.Prelude.{ℕ, suc, ℤ, pos, negsuc, neg_ℤ, Bool, not, List, [], ◌∷◌, ◌++◌, map}
use Rattle.std.specs.List.{list_any, filter}
use Rattle.std.specs.Ordering.{int_eq}
use Rattle.ps_formula.specs.declared.node.Node.{Node}
use Rattle.ps_formula.specs.declared.node.Node.TheVariants as node
use Rattle.ps_pb.specs.Assignments.{holds}

-- a clause: one of its literals is true
abbrev pub Clause : Type 0
Clause = List ℤ

-- a full assignment meets a clause
abbrev pub meets : List Bool → Clause → Bool
meets w c = list_any (holds w) c

-- a node's variable has its number plus 1: its positive literal says that the node is true
abbrev pub positive : ℕ → ℤ
positive i = pos (suc i)

-- the negative literal of a node's variable says that the node is false
abbrev pub negative : ℕ → ℤ
negative i = negsuc i

-- what the node of this number means, over its operands: true exactly where its operation gives true
abbrev pub meaning_of : ℕ → Node → List Clause
meaning_of x node.True = (positive x ∷ []) ∷ []
meaning_of x node.False = (negative x ∷ []) ∷ []
meaning_of x (node.Atom n) = []
meaning_of x (node.Not a) = (positive x ∷ positive a ∷ []) ∷ (negative x ∷ negative a ∷ []) ∷ []
meaning_of x (node.And a b) = (negative x ∷ positive a ∷ []) ∷ (negative x ∷ positive b ∷ [])
    ∷ (positive x ∷ negative a ∷ negative b ∷ []) ∷ []
meaning_of x (node.Or a b) = (positive x ∷ negative a ∷ []) ∷ (positive x ∷ negative b ∷ [])
    ∷ (negative x ∷ positive a ∷ positive b ∷ []) ∷ []
meaning_of x (node.Implies a b) = (positive x ∷ positive a ∷ []) ∷ (positive x ∷ negative b ∷ [])
    ∷ (negative x ∷ negative a ∷ positive b ∷ []) ∷ []
meaning_of x (node.Iff a b) =
    (negative x ∷ negative a ∷ positive b ∷ []) ∷ (negative x ∷ positive a ∷ negative b ∷ [])
    ∷ (positive x ∷ positive a ∷ positive b ∷ []) ∷ (positive x ∷ negative a ∷ negative b ∷ []) ∷ []

-- each literal once, where it first stands
abbrev pub once : Clause → Clause
once [] = []
once (l ∷ ls) = l ∷ filter (λ m. not (int_eq m l)) (once ls)

-- a literal and its opposite stand in the clause
abbrev pub is_tautology : Clause → Bool
is_tautology c = list_any (λ l. list_any (int_eq (neg_ℤ l)) c) c

-- tautologies left out, and no literal twice in a clause
abbrev pub tidy : List Clause → List Clause
tidy cs = map once (filter (λ c. not (is_tautology c)) cs)

-- the clauses of one node
abbrev pub clauses_at : ℕ → Node → List Clause
clauses_at x n = tidy (meaning_of x n)

-- the clauses of nodes that are numbered from here on, node by node
abbrev pub clauses_from : ℕ → List Node → List Clause
clauses_from x [] = []
clauses_from x (n ∷ ns) = clauses_at x n ++ clauses_from (suc x) ns

-- the clause form of all nodes
abbrev pub clause_form : List Node → List Clause
clause_form ns = clauses_from 0 ns
