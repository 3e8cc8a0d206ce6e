-- What warnings are about.
use Rattle.std.specs.Prelude.{◌≡◌, ◌<◌, ◌<ℤ◌, ◌*◌, ◌==◌, ℕ, ℤ, List, All, IsSomeAnd, Bool, true, false, not, ◌||◌, map}
use Rattle.ps_meaning.specs.Formula.{Formula}
use Rattle.ps_meaning.specs.Formula as tree
use Rattle.ps_formula.specs.Nodes.{tree_over, trees}
use Rattle.ps_formula.specs.declared.node.Node.{Node}
use Rattle.ps_problem.specs.declared.bound.Bound.{Bound}
use Rattle.ps_problem.specs.declared.sentence.Sentence.{Sentence}
use Rattle.ps_problem.specs.declared.sentence.Sentence.TheVariants as sentence
use Rattle.std.specs.List.{list_any}
use Rattle.ps_problem.specs.Problems.{tree_at, given_at}

-- whether `|` stands in a formula
abbrev pub has_or : Formula ℕ → Bool
has_or (tree.Not f) = has_or f
has_or (tree.And f g) = has_or f || has_or g
has_or (tree.Or f g) = true
has_or (tree.Implies f g) = has_or f || has_or g
has_or (tree.Iff f g) = has_or f || has_or g
has_or other = false

-- whether one `|` stands in a formula, at its top
abbrev pub is_one_or : Formula ℕ → Bool
is_one_or (tree.Or f g) = not (has_or f || has_or g)
is_one_or other = false

-- the value of the second bound is below that of the first
abbrev pub IsBelow : (first second : Bound) → Type 0
IsBelow first second = second.num * first.den < first.num * second.den

-- whether an atom stands in a formula
abbrev pub has_atom : ℕ → Formula ℕ → Bool
has_atom a tree.Truth = false
has_atom a tree.Falsity = false
has_atom a (tree.Atom b) = b == a
has_atom a (tree.Not f) = has_atom a f
has_atom a (tree.And f g) = has_atom a f || has_atom a g
has_atom a (tree.Or f g) = has_atom a f || has_atom a g
has_atom a (tree.Implies f g) = has_atom a f || has_atom a g
has_atom a (tree.Iff f g) = has_atom a f || has_atom a g

-- whether an atom stands in a bound's formula or condition
abbrev pub stands_in_bound : ℕ → List Node → Bound → Bool
stands_in_bound a ns b = has_atom a (tree_at ns b.formula) || has_atom a (given_at ns b.given)

-- whether an atom stands in a formula of some terms
abbrev pub stands_in_terms : ℕ → List Node → List (ℕ × ℤ) → Bool
stands_in_terms a ns ts = list_any (λ t. has_atom a (tree_at ns t.0)) ts

-- whether an atom stands in a sentence
abbrev pub stands_in : ℕ → List Node → Sentence → Bool
stands_in a ns (sentence.Plain first second) = stands_in_bound a ns first
stands_in a ns (sentence.Linear l) = stands_in_terms a ns l.terms

-- the lower end of a sentence's interval is above the upper one
abbrev pub IsTurned : Sentence → Type 0
IsTurned (sentence.Plain first second) = IsSomeAnd second (IsBelow first)
IsTurned (sentence.Linear l) = IsSomeAnd l.upper (λ most. most <ℤ l.right)

-- what is told of a node is so, where marks tell it of the nodes before
abbrev pub TellsOver : ℕ → List Bool → Node → Bool → Type 0
TellsOver a marks n told = (ts : List (Formula ℕ)) → marks ≡ map (has_atom a) ts → told ≡ has_atom a (tree_over ts n)

-- what is told of a sentence is so, where marks tell it of all nodes
abbrev pub TellsIn : List Bool → Sentence → Bool → Type 0
TellsIn marks s told = (a : ℕ) (ns : List Node) → marks ≡ map (has_atom a) (trees ns) → told ≡ stands_in a ns s

-- the same of a bound
abbrev pub TellsInBound : List Bool → Bound → Bool → Type 0
TellsInBound marks b told = (a : ℕ) (ns : List Node) → marks ≡ map (has_atom a) (trees ns) → told ≡ stands_in_bound a ns b

-- the same of terms
abbrev pub TellsInTerms : List Bool → List (ℕ × ℤ) → Bool → Type 0
TellsInTerms marks ts told = (a : ℕ) (ns : List Node) → marks ≡ map (has_atom a) (trees ns) → told ≡ stands_in_terms a ns ts

-- an atom stands in no sentence
abbrev pub IsUnstated : List Node → List Sentence → ℕ → Type 0
IsUnstated ns ss a = All (λ s. stands_in a ns s ≡ false) ss
