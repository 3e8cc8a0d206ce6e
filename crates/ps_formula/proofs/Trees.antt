-- One more node, and its tree and its truth.
use Rattle.std.proofs.Common.{◌≡◌, ℕ, ◌+◌, ◌<◌, true, List, [], ◌∷◌, ◌++◌, length, map, take, get_or, refl, ◌∙◌, arith}
use Rattle.std.proofs.Math.ListN.{get_or-map}
use Rattle.std.proofs.lemmas.List.{length-append, length-map, map-append, take_more}
use Rattle.ps_meaning.specs.Formula.{World, Formula, Truth, is_true}
use Rattle.ps_formula.specs.declared.node.Node.{Node}
use Rattle.ps_formula.specs.declared.node.Node.TheVariants as node
use Rattle.ps_formula.specs.Nodes.{tree_over, trees_from, trees, truths, value_over}

trees_from-push : (ts : List (Formula ℕ)) (ns : List Node) (n : Node) → trees_from ts (ns ++ n ∷ []) ≡ trees_from ts ns ++ tree_over (trees_from ts ns) n ∷ []
trees_from-push ts [] n = refl
trees_from-push ts (m ∷ ns) n = trees_from-push (ts ++ tree_over ts m ∷ []) ns n

pub trees-push : (ns : List Node) (n : Node) → trees (ns ++ n ∷ []) ≡ trees ns ++ tree_over (trees ns) n ∷ []
trees-push ns n = trees_from-push [] ns n

length-trees_from : (ts : List (Formula ℕ)) (ns : List Node) → length (trees_from ts ns) ≡ length ts + length ns
length-trees_from ts [] = omega arith
length-trees_from ts (n ∷ ns) = omega (arith, length-trees_from (ts ++ tree_over ts n ∷ []) ns, length-append ts (tree_over ts n ∷ []))

pub length-trees : (ns : List Node) → length (trees ns) ≡ length ns
length-trees ns = omega (arith, length-trees_from [] ns)

pub length-truths : (ns : List Node) (w : World) → length (truths ns w) ≡ length ns
length-truths ns w = length-map (trees ns) (λ f. is_true f w) ∙ length-trees ns

-- the value at a place is the truth of the tree there
at : (ts : List (Formula ℕ)) (w : World) (i : ℕ) → get_or (map (λ f. is_true f w) ts) i true ≡ is_true (get_or ts i Truth) w
at ts w i = get_or-map (λ f. is_true f w) ts i Truth

pub truths-at : (ns : List Node) (w : World) (i : ℕ) → get_or (truths ns w) i true ≡ is_true (get_or (trees ns) i Truth) w
truths-at ns w i = at (trees ns) w i

-- the value over the earlier values is the truth of the tree over the earlier trees
pub value_over-is : (ts : List (Formula ℕ)) (w : World) (n : Node) → value_over (map (λ f. is_true f w) ts) w n ≡ is_true (tree_over ts n) w
value_over-is ts w node.True = refl
value_over-is ts w node.False = refl
value_over-is ts w (node.Atom a) = refl
value_over-is ts w (node.Not a) = rw (at ts w a) refl
value_over-is ts w (node.And a b) = rw (at ts w a, at ts w b) refl
value_over-is ts w (node.Or a b) = rw (at ts w a, at ts w b) refl
value_over-is ts w (node.Implies a b) = rw (at ts w a, at ts w b) refl
value_over-is ts w (node.Iff a b) = rw (at ts w a, at ts w b) refl

pub truths-push : (ns : List Node) (n : Node) (w : World) → truths (ns ++ n ∷ []) w ≡ truths ns w ++ value_over (truths ns w) w n ∷ []
truths-push ns n w = rw (trees-push ns n, map-append (λ f. is_true f w) (trees ns) (tree_over (trees ns) n ∷ []), value_over-is (trees ns) w n) refl

pub truths-more : (ns : List Node) (i : ℕ) (d : Node) (w : World) → i < length ns
    → truths (take (i + 1) ns) w ≡ truths (take i ns) w ++ value_over (truths (take i ns) w) w (get_or ns i d) ∷ []
truths-more ns i d w lt = rw (take_more ns i d lt) (truths-push (take i ns) (get_or ns i d) w)
