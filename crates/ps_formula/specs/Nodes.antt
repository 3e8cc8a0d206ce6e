-- Which tree each node stands for, and which lists of nodes are in order.
use Rattle.std.specs.Prelude.{ℕ, ◌<◌, ◌≢◌, Bool, true, false, not, ◌&&◌, ◌||◌, List, []}
use Rattle.std.specs.Prelude.{◌∷◌, ◌++◌, length, map, slice_index_or, slice_get, Some, ◌≡◌, ◌⊎◌, Contains, AllPairs}
use Rattle.ps_meaning.specs.Formula.{World, Formula, Truth, is_true, agree}
use Rattle.ps_meaning.specs.Formula as tree
use Rattle.ps_formula.specs.declared.limits.TheConstants.{MOST_ATOMS, MOST_NODES}
use Rattle.ps_formula.specs.declared.node.Node.{Node}
use Rattle.ps_formula.specs.declared.node.Node.TheVariants as node

-- the tree of a node over the trees of the nodes before it
abbrev pub tree_over : List (Formula ℕ) → Node → Formula ℕ
tree_over ts node.True = tree.Truth
tree_over ts node.False = tree.Falsity
tree_over ts (node.Atom n) = tree.Atom n
tree_over ts (node.Not a) = tree.Not (slice_index_or ts a Truth)
tree_over ts (node.And a b) = tree.And (slice_index_or ts a Truth) (slice_index_or ts b Truth)
tree_over ts (node.Or a b) = tree.Or (slice_index_or ts a Truth) (slice_index_or ts b Truth)
tree_over ts (node.Implies a b) = tree.Implies (slice_index_or ts a Truth) (slice_index_or ts b Truth)
tree_over ts (node.Iff a b) = tree.Iff (slice_index_or ts a Truth) (slice_index_or ts b Truth)

-- the trees of earlier nodes, and behind them those of these nodes in order
abbrev pub trees_from : List (Formula ℕ) → List Node → List (Formula ℕ)
trees_from ts [] = ts
trees_from ts (n ∷ ns) = trees_from (ts ++ tree_over ts n ∷ []) ns

-- the tree of each node
abbrev pub trees : List Node → List (Formula ℕ)
trees ns = trees_from [] ns

-- the operands stand before this place, and an atom's number is below the limit
abbrev pub Fits : ℕ → Node → Type 0
Fits n node.True = Unit {0}
Fits n node.False = Unit {0}
Fits n (node.Atom a) = a < MOST_ATOMS
Fits n (node.Not a) = a < n
Fits n (node.And a b) = (a < n) × (b < n)
Fits n (node.Or a b) = (a < n) × (b < n)
Fits n (node.Implies a b) = (a < n) × (b < n)
Fits n (node.Iff a b) = (a < n) × (b < n)

-- each node's operands stand before it, each atom's number is below the limit, and no node stands twice
pub record AreNodes (ns : List Node) : Type 0 where
  pub fit : (i : ℕ) (d : Node) → i < length ns → Fits i (slice_index_or ns i d)
  pub once : AllPairs (λ m n. m ≢ n) ns

-- the tree of each node is its own over the trees of its operands
pub record HaveOwnTrees (ns : List Node) : Type 0 where
  pub over_operands : (i : ℕ) (d : Node) → i < length ns
      → slice_index_or (trees ns) i Truth ≡ tree_over (trees ns) (slice_index_or ns i d)

-- there are as many nodes as there may be, and this one is new
abbrev pub IsFullFor : Node → List Node → Type 0
IsFullFor n ns = (length ns ≡ MOST_NODES) × ¬ Contains ns n

-- where the node is an atom, its number is below this
abbrev pub AtomBelow : ℕ → Node → Type 0
AtomBelow n (node.Atom a) = a < n
AtomBelow n other = Unit {0}

-- the truth of each node
abbrev pub truths : List Node → World → List Bool
truths ns w = map (λ f. is_true f w) (trees ns)

-- the truth of a node over the truths of the nodes before it
abbrev pub value_over : List Bool → World → Node → Bool
value_over vs w node.True = true
value_over vs w node.False = false
value_over vs w (node.Atom n) = slice_index_or w n false
value_over vs w (node.Not a) = not (slice_index_or vs a true)
value_over vs w (node.And a b) = slice_index_or vs a true && slice_index_or vs b true
value_over vs w (node.Or a b) = slice_index_or vs a true || slice_index_or vs b true
value_over vs w (node.Implies a b) = not (slice_index_or vs a true) || slice_index_or vs b true
value_over vs w (node.Iff a b) = agree (slice_index_or vs a true) (slice_index_or vs b true)

-- the node stands at this place of the new list, which is the old one, or one longer where the node is new
pub record Adds (old : List Node) (n : Node) (i : ℕ) (new : List Node) : Type 0 where
  pub there : slice_get new i ≡ Some n
  pub grown : ((new ≡ old) × Contains old n) ⊎ ((new ≡ old ++ n ∷ []) × ¬ Contains old n)
