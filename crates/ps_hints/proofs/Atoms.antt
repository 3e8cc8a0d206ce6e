-- Where an atom stands in the formulas of nodes.
use Rattle.std.proofs.Common.{◌≡◌, ℕ, suc, ◌+◌, ◌<◌, ◌≤◌, ℤ, Bool, true, false, ◌||◌, List, [], ◌∷◌, ◌++◌, length, map, take, drop, drop-cons, get_or, refl, ap, subst, sym, ◌∙◌, arith}
use Rattle.std.proofs.Math.ListN.{get_or-map}
use Rattle.std.proofs.lemmas.List.{map-append, take_more, take_all, drop_all}
use Rattle.std.proofs.lemmas.List.Elements.{All-more}
use Rattle.ps_meaning.specs.Formula.{Formula, Truth}
use Rattle.ps_formula.specs.declared.node.Node.{Node}
use Rattle.ps_formula.specs.Nodes.{tree_over, trees}
use Rattle.ps_problem.specs.declared.sentence.Sentence.{Sentence}
use Rattle.ps_problem.specs.Problems.{tree_at}
use Rattle.ps_formula.proofs.Trees.{trees-push}
use Rattle.ps_hints.specs.Warnings.{has_atom, stands_in, stands_in_terms, IsUnstated}

-- what is kept at a place tells of the tree there
pub atom_at : (a : ℕ) (ts : List (Formula ℕ)) (i : ℕ) → get_or (map (has_atom a) ts) i false ≡ has_atom a (get_or ts i Truth)
atom_at a ts i = get_or-map (has_atom a) ts i Truth

-- one node more
pub atoms-more : (a : ℕ) (ns : List Node) (i : ℕ) (d : Node) → i < length ns
    → map (has_atom a) (trees (take (i + 1) ns)) ≡ map (has_atom a) (trees (take i ns)) ++ has_atom a (tree_over (trees (take i ns)) (get_or ns i d)) ∷ []
atoms-more a ns i d lt = rw (take_more ns i d lt, trees-push (take i ns) (get_or ns i d))
    (map-append (has_atom a) (trees (take i ns)) (tree_over (trees (take i ns)) (get_or ns i d) ∷ []))

-- one sentence more in which an atom doesn't stand
pub none_more : (a : ℕ) (ns : List Node) (ss xs : List Sentence) (i : ℕ) (d : Sentence) → xs ≡ ss → i < length xs → IsUnstated ns (take i ss) a
    → stands_in a ns (get_or xs i d) ≡ false → IsUnstated ns (take (i + 1) ss) a
none_more a ns ss xs i d e lt are is =
    subst (λ ys. IsUnstated ns (take (i + 1) ys) a) e (All-more (λ s. stands_in a ns s ≡ false) xs i d lt (subst (λ ys. IsUnstated ns (take i ys) a) (sym e) are) is)

-- all sentences were seen
pub none_of_all : (a : ℕ) (ns : List Node) (ss xs : List Sentence) (i : ℕ) → xs ≡ ss → length xs ≤ i → IsUnstated ns (take i ss) a → IsUnstated ns ss a
none_of_all a ns ss xs i e le are = subst (λ ys. IsUnstated ns ys a) (take_all i ss (subst (λ ys. length ys ≤ i) e le)) are

module _ (a : ℕ) (ns : List Node) (marks : List Bool) (e : marks ≡ map (has_atom a) (trees ns)) (ts : List (ℕ × ℤ)) (i : ℕ) (t : ℕ × ℤ) (h : i < length ts) where
  terms-turn : stands_in_terms a ns (drop i ts) ≡ has_atom a (tree_at ns (get_or ts i t).0) || stands_in_terms a ns (drop (i + 1) ts)
  terms-turn = let k : i + 1 ≡ suc i = omega arith in rw k (ap (stands_in_terms a ns) (drop-cons ts i t h))

  mark-is : (b : Bool) → b ≡ get_or marks (get_or ts i t).0 false → has_atom a (tree_at ns (get_or ts i t).0) ≡ b
  mark-is b k = sym (k ∙ ap (λ ms. get_or ms (get_or ts i t).0 false) e ∙ atom_at a (trees ns) (get_or ts i t).0)

  -- the atom stands in this term
  pub term-has : (b : Bool) → b ≡ get_or marks (get_or ts i t).0 false → b ≡ true → stands_in_terms a ns (drop i ts) ≡ true
  term-has b k is = terms-turn ∙ ap (λ c. c || stands_in_terms a ns (drop (i + 1) ts)) (mark-is b k ∙ is)

  -- it doesn't
  pub term-lacks : (b : Bool) → b ≡ get_or marks (get_or ts i t).0 false → b ≡ false → stands_in_terms a ns (drop i ts) ≡ stands_in_terms a ns (drop (i + 1) ts)
  term-lacks b k is = terms-turn ∙ ap (λ c. c || stands_in_terms a ns (drop (i + 1) ts)) (mark-is b k ∙ is)

-- no term is left
pub terms-none : (a : ℕ) (ns : List Node) (ts : List (ℕ × ℤ)) (i : ℕ) → length ts ≤ i → stands_in_terms a ns (drop i ts) ≡ false
terms-none a ns ts i h = ap (stands_in_terms a ns) (drop_all i ts h)
