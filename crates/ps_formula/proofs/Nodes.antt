-- Nodes as keys of a set, and one more node.
use Rattle.std.proofs.Common.{◌≡◌, ◌≢◌, ◌⊎◌, inl, inr, ◌↔◌, ℕ, ◌<◌, ◌≤◌, Bool, true, false, List, [], ◌∷◌, ◌++◌, length, get_or, slice_get, position, Some, Ok, IsErrOf, Contains, refl, sym, ap, subst, ◌∙◌, true≢false, if◌then◌else◌, rules, arith}
use Rattle.std.specs.List.{list_any}
use Rattle.std.proofs.lemmas.Bool.{cases_lt}
use Rattle.std.proofs.lemmas.List.{get_or_append_left, get_or_push, get_or_default, length_push}
use Rattle.std.proofs.lemmas.List.Quantifiers.{position-Some, all_pairs_push}
use Rattle.std.proofs.lemmas.Map.Views.{list_any-from_Contains}
use Rattle.std.proofs.lemmas.Option.{slice_get-get_or}
use Rattle.indexmap.specs.IndexSet.{insert_key}
use Rattle.ps_formula.specs.declared.limits.TheConstants.{MOST_NODES}
use Rattle.ps_formula.specs.declared.node.Node.{Node}
use Rattle.ps_formula.specs.declared.node.Node.TheVariants.{True}
use Rattle.ps_formula.specs.contracts.node.NodePartialEq.TheImpl.{eq-value}
use Rattle.ps_formula.specs.contracts.node.NodeEq.TheImpl.Laws.{laws-law}
use Rattle.ps_formula.specs.declared.formulas.AddError.{AddError}
use Rattle.ps_formula.specs.declared.formulas.AddError.TheVariants.{Full}
use Rattle.ps_formula.specs.Nodes.{Fits, AreNodes, Adds}

-- `==` of two nodes
abbrev pub node_eq : Node → Node → Bool
node_eq = eq-value.it

-- equal nodes are the same node
pub same_node : (x y : Node) → node_eq x y ≡ true → x ≡ y
same_node x y e = search rules

-- the place that is found has the node
pub placed : (ns : List Node) (n : Node) (i : ℕ) → Some i ≡ position (node_eq n) ns → slice_get ns i ≡ Some n
placed ns n i e =
    let f = position-Some (node_eq n) ns i True (sym e) in
    slice_get-get_or ns i True f.0 ∙ ap Some (sym (same_node n (get_or ns i True) f.1))

-- a node that is found is there
pub there : (ns : List Node) (n : Node) (i : ℕ) → Some i ≡ position (node_eq n) ns → Contains ns n
there ns n i e =
    let f = position-Some (node_eq n) ns i n (sym e) in
    (i, f.0, sym (same_node n (get_or ns i n) f.1))

-- a node that isn't found isn't there
pub absent : (ns : List Node) (n : Node) → false ≡ list_any (node_eq n) ns → Contains ns n → ⊥
absent ns n e h = true≢false (sym (e ∙ list_any-from_Contains laws-law n ns h))

-- the list is kept where the node is found
pub kept : (ns : List Node) (n : Node) (i : ℕ) → Some i ≡ position (node_eq n) ns → Adds ns n i ns
kept ns n i e = record { there = placed ns n i e; grown = inl (refl, there ns n i e) }

-- a list is full for no node that it has
pub not_full : (ns : List Node) (n : Node) (i : ℕ) → Some i ≡ position (node_eq n) ns
    → IsErrOf {T = ℕ} {E = AddError} (Ok i) Full ↔ ((length ns ≡ MOST_NODES) × (Contains ns n → ⊥))
not_full ns n i e = ((λ f. cc), (λ h. absurd (h.1 (there ns n i e))))

-- a new node whose operands are there keeps the list in order
pub one_more : (ns : List Node) (n : Node) → AreNodes ns → Fits (length ns) n → false ≡ list_any (node_eq n) ns → AreNodes (ns ++ n ∷ [])
one_more ns n are fits e = record {
  fit = λ i d lt. by_place i d lt (cases_lt i (length ns));
  once = all_pairs_push (λ a b. a ≢ b) ns n are.once (λ k d lt same. absent ns n e (k, lt, (get_or_default ns k n d lt ∙ same)));
}
  where
    by_place : (i : ℕ) (d : Node) → i < length (ns ++ n ∷ []) → (i < length ns) ⊎ (length ns ≤ i) → Fits i (get_or (ns ++ n ∷ []) i d)
    by_place i d lt (inl below) = rw (get_or_append_left ns (n ∷ []) d i below) (are.fit i d below)
    by_place i d lt (inr last) =
        let here : length ns ≡ i = omega (arith, length_push ns n) in
        rw (get_or_push ns n d i here) (subst (λ k. Fits k n) here fits)

-- the list after a look-up that didn't find the node
pub added : (ns new : List Node) (n : Node) → AreNodes ns → length ns < MOST_NODES → Fits (length ns) n → false ≡ list_any (node_eq n) ns
    → new ≡ insert_key node_eq ns n → AreNodes new × (length new ≤ MOST_NODES)
added ns new n are few fits e k =
    let grown : new ≡ ns ++ n ∷ [] = k ∙ ap (λ b. if b then ns else ns ++ n ∷ []) (sym e) in
    rw grown (one_more ns n are fits e, omega (arith, length_push ns n))
