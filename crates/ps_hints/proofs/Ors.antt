-- Where `|` stands in the formulas of nodes.
use Rattle.std.proofs.Common.{◌≡◌, ◌≢◌, ℕ, ◌+◌, ◌<◌, Bool, false, not, ◌||◌, List, [], ◌∷◌, ◌++◌, length, map, take, get_or, refl}
use Rattle.std.proofs.Math.ListN.{get_or-map}
use Rattle.std.proofs.lemmas.List.{map-append, take_more}
use Rattle.ps_meaning.specs.Formula.{Formula, Truth}
use Rattle.ps_formula.specs.declared.node.Node.{Node}
use Rattle.ps_formula.specs.declared.node.Node.TheVariants as node
use Rattle.ps_formula.specs.Nodes.{AreNodes, tree_over, trees}
use Rattle.ps_formula.proofs.Trees.{trees-push}
use Rattle.ps_formula.proofs.Different.{trees-at}
use Rattle.ps_problem.specs.Problems.{tree_at}
use Rattle.ps_hints.specs.Warnings.{has_or, is_one_or}

-- what is kept at a place tells of the tree there
pub or-at : (ts : List (Formula ℕ)) (i : ℕ) → get_or (map has_or ts) i false ≡ has_or (get_or ts i Truth)
or-at ts i = get_or-map has_or ts i Truth

-- one node more
pub ors-more : (ns : List Node) (i : ℕ) (d : Node) → i < length ns
    → map has_or (trees (take (i + 1) ns)) ≡ map has_or (trees (take i ns)) ++ has_or (tree_over (trees (take i ns)) (get_or ns i d)) ∷ []
ors-more ns i d lt = rw (take_more ns i d lt, trees-push (take i ns) (get_or ns i d))
    (map-append has_or (trees (take i ns)) (tree_over (trees (take i ns)) (get_or ns i d) ∷ []))

-- a formula whose node joins two others by `|`
pub joined : (ns : List Node) (ors : List Bool) (i a b : ℕ) → AreNodes ns → ors ≡ map has_or (trees ns) → i < length ns → get_or ns i node.True ≡ node.Or a b
    → not (get_or ors a false || get_or ors b false) ≡ is_one_or (tree_at ns i)
joined ns ors i a b are is lt or = rw (trees-at ns are i node.True lt, or, is, or-at (trees ns) a, or-at (trees ns) b) refl

-- a tree over another node is no joined one
over_other : (ts : List (Formula ℕ)) (n : Node) → ((a b : ℕ) → n ≢ node.Or a b) → false ≡ is_one_or (tree_over ts n)
over_other ts (node.Or a b) none = absurd (none a b refl)
over_other ts node.True none = refl
over_other ts node.False none = refl
over_other ts (node.Atom a) none = refl
over_other ts (node.Not a) none = refl
over_other ts (node.And a b) none = refl
over_other ts (node.Implies a b) none = refl
over_other ts (node.Iff a b) none = refl

-- a formula whose node joins no two others by `|`
pub not_joined : (ns : List Node) (i : ℕ) → AreNodes ns → i < length ns → ((a b : ℕ) → get_or ns i node.True ≢ node.Or a b) → false ≡ is_one_or (tree_at ns i)
not_joined ns i are lt none = rw (trees-at ns are i node.True lt) (over_other (trees ns) (get_or ns i node.True) none)
