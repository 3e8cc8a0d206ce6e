-- Different nodes stand for different trees.
use Rattle.std.proofs.Common.{true, ◌≡◌, ◌≢◌, ◌⊎◌, inl, inr, ℕ, ◌<◌, ◌≤◌, List, [], ◌∷◌, ◌++◌, length, get_or, refl, sym, ap, subst, ◌∙◌, append_assoc, append-nil, arith}
use Rattle.std.specs.List.{AllPairs}
use Rattle.std.proofs.lemmas.Bool.{cases_lt, cases_eq}
use Rattle.std.proofs.lemmas.List.{get_or_append_left, get_or_push, get_or_default, length_push}
use Rattle.std.proofs.lemmas.List.Quantifiers.{all_pairs_push}
use Rattle.ps_meaning.specs.Formula.{Formula, Truth, World, is_true}
use Rattle.ps_formula.specs.declared.node.Node.{Node}
use Rattle.ps_formula.specs.declared.node.Node.TheVariants as node
use Rattle.ps_formula.specs.Nodes.{Fits, AreNodes, tree_over, trees, truths, value_over}
use Rattle.ps_formula.proofs.Trees.{length-trees, trees-push, truths-at, value_over-is}

-- more trees behind change no tree over the earlier ones
tree_over-more : (ts us : List (Formula ℕ)) (n : Node) → Fits (length ts) n → tree_over (ts ++ us) n ≡ tree_over ts n
tree_over-more ts us node.True f = refl
tree_over-more ts us node.False f = refl
tree_over-more ts us (node.Atom a) f = refl
tree_over-more ts us (node.Not a) f = rw (get_or_append_left ts us Truth a f) refl
tree_over-more ts us (node.And a b) f = rw (get_or_append_left ts us Truth a f.0, get_or_append_left ts us Truth b f.1) refl
tree_over-more ts us (node.Or a b) f = rw (get_or_append_left ts us Truth a f.0, get_or_append_left ts us Truth b f.1) refl
tree_over-more ts us (node.Implies a b) f = rw (get_or_append_left ts us Truth a f.0, get_or_append_left ts us Truth b f.1) refl
tree_over-more ts us (node.Iff a b) f = rw (get_or_append_left ts us Truth a f.0, get_or_append_left ts us Truth b f.1) refl

-- a node that fits early fits later
fits-later : (m k : ℕ) (n : Node) → Fits m n → m ≤ k → Fits k n
fits-later m k node.True f le = tt
fits-later m k node.False f le = tt
fits-later m k (node.Atom a) f le = f
fits-later m k (node.Not a) f le = omega arith
fits-later m k (node.And a b) f le = (omega arith, omega arith)
fits-later m k (node.Or a b) f le = (omega arith, omega arith)
fits-later m k (node.Implies a b) f le = (omega arith, omega arith)
fits-later m k (node.Iff a b) f le = (omega arith, omega arith)

-- among different things each has one place
one_place : (ts : List (Formula ℕ)) (i j : ℕ) → AllPairs (λ f g. f ≢ g) ts → i < length ts → j < length ts
    → get_or ts i Truth ≡ get_or ts j Truth → i ≡ j
one_place ts i j h li lj e = by_order (cases_eq i j)
  where
    apart : (i < j) ⊎ (j ≤ i) → i ≢ j → i ≡ j
    apart (inl lt) ne = absurd (h i j Truth lt lj e)
    apart (inr le) ne = absurd (h j i Truth (omega arith) li (sym e))

    by_order : (i ≡ j) ⊎ (i ≢ j) → i ≡ j
    by_order (inl eq) = eq
    by_order (inr ne) = apart (cases_lt i j) ne

-- over different trees, nodes of one tree are the same node
same_node : (ts : List (Formula ℕ)) (m n : Node) → AllPairs (λ f g. f ≢ g) ts → Fits (length ts) m → Fits (length ts) n
    → tree_over ts m ≡ tree_over ts n → m ≡ n
same_node ts node.True node.True h fm fn e = refl
same_node ts node.False node.False h fm fn e = refl
same_node ts (node.Atom a) (node.Atom b) h fm fn e = cc
same_node ts (node.Not a) (node.Not b) h fm fn e = ap node.Not (one_place ts a b h fm fn cc)
same_node ts (node.And a a') (node.And b b') h fm fn e =
    let l = one_place ts a b h fm.0 fn.0 cc in let r = one_place ts a' b' h fm.1 fn.1 cc in cc
same_node ts (node.Or a a') (node.Or b b') h fm fn e =
    let l = one_place ts a b h fm.0 fn.0 cc in let r = one_place ts a' b' h fm.1 fn.1 cc in cc
same_node ts (node.Implies a a') (node.Implies b b') h fm fn e =
    let l = one_place ts a b h fm.0 fn.0 cc in let r = one_place ts a' b' h fm.1 fn.1 cc in cc
same_node ts (node.Iff a a') (node.Iff b b') h fm fn e =
    let l = one_place ts a b h fm.0 fn.0 cc in let r = one_place ts a' b' h fm.1 fn.1 cc in cc
same_node ts m n h fm fn e = cc

-- what holds of no nodes, and of one node more, holds of all lists
pub by_push : (P : List Node → Type 0) → P [] → ((ns : List Node) (n : Node) → P ns → P (ns ++ n ∷ [])) → (ns : List Node) → P ns
by_push P none more ns = go [] ns none
  where
    go : (ms ks : List Node) → P ms → P (ms ++ ks)
    go ms [] p = subst P (sym (append-nil ms)) p
    go ms (k ∷ ks) p = subst P (append_assoc ms (k ∷ []) ks) (go (ms ++ k ∷ []) ks (more ms k p))

-- without the last node the others are in order
pub before : (ns : List Node) (n : Node) → AreNodes (ns ++ n ∷ []) → AreNodes ns
before ns n are = record {
  fit = λ i d lt. rw (get_or_append_left ns (n ∷ []) d i lt) at (are.fit i d (omega (arith, length_push ns n)));
  once = λ i j d lt within same. are.once i j d lt (omega (arith, length_push ns n))
      (get_or_append_left ns (n ∷ []) d i (omega arith) ∙ same ∙ sym (get_or_append_left ns (n ∷ []) d j within));
}

-- the last node's operands stand before it
pub fits-last : (ns : List Node) (n : Node) → AreNodes (ns ++ n ∷ []) → Fits (length ns) n
fits-last ns n are = rw (get_or_push ns n n (length ns) refl) at (are.fit (length ns) n (omega (arith, length_push ns n)))

-- no node before the last one is the same
pub not-before : (ns : List Node) (n : Node) → AreNodes (ns ++ n ∷ []) → (i : ℕ) (d : Node) → i < length ns → get_or ns i d ≢ n
not-before ns n are i d lt same = are.once i (length ns) d lt (omega (arith, length_push ns n))
    (get_or_append_left ns (n ∷ []) d i lt ∙ same ∙ sym (get_or_push ns n d (length ns) refl))

-- each tree is that of the node at its place, over all trees
abbrev pub HaveTrees : List Node → List (Formula ℕ) → Type 0
HaveTrees ns ts = (i : ℕ) (d : Node) → i < length ns → get_or ts i Truth ≡ tree_over ts (get_or ns i d)

have_trees-push : (ns : List Node) (n : Node) (ts : List (Formula ℕ)) → AreNodes (ns ++ n ∷ []) → length ts ≡ length ns → HaveTrees ns ts
    → HaveTrees (ns ++ n ∷ []) (ts ++ tree_over ts n ∷ [])
have_trees-push ns n ts are long earlier i d lt = by_place (cases_lt i (length ns))
  where
    t : Formula ℕ
    t = tree_over ts n

    fits : Fits (length ts) n
    fits = rw long (fits-last ns n are)

    by_place : (i < length ns) ⊎ (length ns ≤ i) → get_or (ts ++ t ∷ []) i Truth ≡ tree_over (ts ++ t ∷ []) (get_or (ns ++ n ∷ []) i d)
    by_place (inl below) =
        let early : Fits (length ts) (get_or ns i d) = fits-later i (length ts) (get_or ns i d) ((before ns n are).fit i d below) (omega arith) in
        rw (get_or_append_left ns (n ∷ []) d i below, tree_over-more ts (t ∷ []) (get_or ns i d) early, get_or_append_left ts (t ∷ []) Truth i (omega arith)) (earlier i d below)
    by_place (inr last) =
        let here : length ns ≡ i = omega (arith, length_push ns n) in
        rw (get_or_push ns n d i here, tree_over-more ts (t ∷ []) n fits, get_or_push ts t Truth i (long ∙ here)) refl

different-push : (ns : List Node) (n : Node) (ts : List (Formula ℕ)) → AreNodes (ns ++ n ∷ []) → length ts ≡ length ns → HaveTrees ns ts
    → AllPairs (λ f g. f ≢ g) ts → AllPairs (λ f g. f ≢ g) (ts ++ tree_over ts n ∷ [])
different-push ns n ts are long have apart = all_pairs_push (λ f g. f ≢ g) ts (tree_over ts n) apart (λ k d lt same.
    let below : k < length ns = omega arith in
    let early : Fits (length ts) (get_or ns k n) = fits-later k (length ts) (get_or ns k n) ((before ns n are).fit k n below) (omega arith) in
    let fits : Fits (length ts) n = rw long (fits-last ns n are) in
    let same_tree : tree_over ts (get_or ns k n) ≡ tree_over ts n = sym (have k n below) ∙ get_or_default ts k Truth d lt ∙ same in
    not-before ns n are k n below (same_node ts (get_or ns k n) n apart early fits same_tree))

-- the tree at a node's place is the node's over the trees of all
pub trees-at : (ns : List Node) → AreNodes ns → HaveTrees ns (trees ns)
trees-at ns = by_push (λ ns. AreNodes ns → HaveTrees ns (trees ns)) (λ are i d lt. absurd (omega arith))
    (λ ns n earlier are. rw (trees-push ns n) (have_trees-push ns n (trees ns) are (length-trees ns) (earlier (before ns n are)))) ns

-- the value of a node is its own over the values of all
pub values-at : (ns : List Node) (w : World) → AreNodes ns → (i : ℕ) (d : Node) → i < length ns → get_or (truths ns w) i true ≡ value_over (truths ns w) w (get_or ns i d)
values-at ns w are i d lt = truths-at ns w i ∙ ap (λ f. is_true f w) (trees-at ns are i d lt) ∙ sym (value_over-is (trees ns) w (get_or ns i d))

-- different nodes stand for different trees
pub different_trees : (ns : List Node) → AreNodes ns → AllPairs (λ f g. f ≢ g) (trees ns)
different_trees ns = by_push (λ ns. AreNodes ns → AllPairs (λ f g. f ≢ g) (trees ns)) (λ are i j d lt within. absurd (omega arith))
    (λ ns n earlier are. let early = before ns n are in
    rw (trees-push ns n) (different-push ns n (trees ns) are (length-trees ns) (trees-at ns early) (earlier early))) ns

-- nodes of one tree are one node
pub same_place : (ns : List Node) (i j : ℕ) → AreNodes ns → i < length ns → j < length ns → get_or (trees ns) i Truth ≡ get_or (trees ns) j Truth → i ≡ j
same_place ns i j are li lj e = one_place (trees ns) i j (different_trees ns are) (rw (length-trees ns) li) (rw (length-trees ns) lj) e
