-- Combinations over nodes have at a world's extension the values of combinations in the world.
use Rattle.std.proofs.Common.{◌≡◌, ℕ, ◌<◌, ℤ, pos, ◌+ℤ◌, ◌*ℤ◌, neg_ℤ, Bool, true, false, cond, Option, Some, None, List, [], ◌∷◌, ◌++◌, length, map, All, refl, sym, ap, ◌∙◌, arith}
use Rattle.std.specs.Option.{IfSome}
use Rattle.std.proofs.lemmas.Int.{ints}
use Rattle.std.proofs.Math.Bool.{and-true}
use Rattle.std.proofs.lemmas.List.{get_or_default}
use Rattle.std.proofs.lemmas.List.Elements.{All-head, All-tail}
use Rattle.ps_meaning.specs.Formula.{World, And, is_true}
use Rattle.ps_meaning.specs.Rows.{indicator, terms_in, row_in}
use Rattle.ps_meaning.proofs.Integers.{mul_add, mul-zero, mul-one}
use Rattle.ps_meaning.proofs.IntRing.{neg-*ℤ}
use Rattle.ps_formula.specs.declared.node.Node.{Node}
use Rattle.ps_formula.specs.Nodes.{truths}
use Rattle.ps_formula.proofs.Trees.{length-truths, truths-at}
use Rattle.ps_problem.specs.declared.row.Row.{Row}
use Rattle.ps_problem.specs.declared.query.Query as stored
use Rattle.ps_problem.specs.Problems.{tree_at, given_at, weights_at, IsBoth, HasNodes, IsTerm}
use Rattle.ps_problem.specs.Rows.{row_of, IsRow}
use Rattle.ps_pb.specs.Weights.{Weighted, true_weight}
use Rattle.ps_pb.specs.Assignments.{holds}
use Rattle.ps_clause.specs.Extensions.{extension}
use Rattle.ps_clause.specs.Clauses.{positive}
use Rattle.ps_clause.proofs.Tidy.{holds-positive}
use Rattle.ps_claims.specs.Queries.{Query}
use Rattle.ps_claims.specs.Duals.{Dual, ClaimKind, Nothing, Lower, Upper, sum_of_rows, claimed_in, combination}
use Rattle.ps_claims.specs.Validity.{query_of}
use Rattle.ps_claims.specs.Goals.{Combination, value_under, plus, at_node, at_condition, term_times, row_times, rows_times, claimed_of, combination_of}

true_weight-append : (v : List Bool) (ts us : Weighted) → true_weight v (ts ++ us) ≡ true_weight v ts +ℤ true_weight v us
true_weight-append v [] us = omega (arith, ints)
true_weight-append v (t ∷ ts) us = omega (arith, ints, true_weight-append v ts us)

value-plus : (v : List Bool) (c d : Combination) → value_under v (plus c d) ≡ value_under v c +ℤ value_under v d
value-plus v c d = omega (arith, ints, true_weight-append v c.terms d.terms)

-- the literal of a node is true in an extension where its tree is
node-holds : (ns : List Node) (w : World) (i : ℕ) → i < length ns → holds (extension ns w) (positive i) ≡ is_true (tree_at ns i) w
node-holds ns w i lt = holds-positive (truths ns w) i ∙ get_or_default (truths ns w) i false true (rw (length-truths ns w) lt) ∙ truths-at ns w i

times-bool : (b : Bool) (k : ℤ) → (pos 0 +ℤ (cond b k (pos 0) +ℤ pos 0)) ≡ (k *ℤ cond b (pos 1) (pos 0))
times-bool true k = omega (arith, ints, mul-one k)
times-bool false k = omega (arith, ints, mul-zero k)

value-node : (ns : List Node) (w : World) (k : ℤ) (i : ℕ) → i < length ns → value_under (extension ns w) (at_node k i) ≡ k *ℤ indicator (tree_at ns i) w
value-node ns w k i lt = rw (node-holds ns w i lt) (times-bool (is_true (tree_at ns i) w) k)

value-condition : (ns : List Node) (w : World) (k : ℤ) (given : Option ℕ) → IfSome given (λ g. g < length ns) → value_under (extension ns w) (at_condition k given) ≡ k *ℤ indicator (given_at ns given) w
value-condition ns w k None there = omega (arith, ints, mul-one k)
value-condition ns w k (Some g) there = value-node ns w k g there

-- the node for formula and condition together is true where both are
pub both-indicator : (ns : List Node) (w : World) (formula : ℕ) (given : Option ℕ) (both : ℕ) → IsBoth ns formula given both → indicator (tree_at ns both) w ≡ indicator (And (tree_at ns formula) (given_at ns given)) w
both-indicator ns w formula None both e = rw (e, and-true (is_true (tree_at ns formula) w)) refl
both-indicator ns w formula (Some g) both e = ap (λ f. indicator f w) e

value-both : (ns : List Node) (w : World) (k : ℤ) (formula : ℕ) (given : Option ℕ) (both : ℕ) → HasNodes ns formula given both
    → value_under (extension ns w) (at_node k both) ≡ k *ℤ indicator (And (tree_at ns formula) (given_at ns given)) w
value-both ns w k formula given both has = value-node ns w k both has.both_there ∙ ap (λ z. k *ℤ z) (both-indicator ns w formula given both has.both_is)

-- a term times a multiplier, and others behind it
term-times : (b : Bool) (y k r : ℤ) → (cond b (y *ℤ k) (pos 0) +ℤ (y *ℤ r)) ≡ (y *ℤ ((k *ℤ cond b (pos 1) (pos 0)) +ℤ r))
term-times true y k r = let o = mul-one k in rw o (let m = mul_add y k r in omega (arith, ints, m))
term-times false y k r = let o = mul-zero k in rw o (let m = mul_add y (pos 0) r in let z = mul-zero y in omega (arith, ints, m, z))

value-terms : (ns : List Node) (w : World) (y : ℤ) (ts : List (ℕ × ℤ)) → All (IsTerm ns) ts
    → true_weight (extension ns w) (map (term_times y) ts) ≡ y *ℤ terms_in (weights_at ns ts) w
value-terms ns w y [] are = sym (mul-zero y)
value-terms ns w y (t ∷ ts) are =
    let lt : t.0 < length ns = All-head (IsTerm ns) t ts are in
    rw (node-holds ns w t.0 lt, value-terms ns w y ts (All-tail (IsTerm ns) t ts are))
    (term-times (is_true (tree_at ns t.0) w) y t.1 (terms_in (weights_at ns ts) w))

value-row : (ns : List Node) (w : World) (y : ℤ) (r : Row) → IsRow ns r → value_under (extension ns w) (row_times y r) ≡ y *ℤ row_in (row_of ns r) w
value-row ns w y r is =
    let e = value-terms ns w y r.terms is.nodes in
    let m = mul_add y r.base (terms_in (weights_at ns r.terms) w) in
    omega (arith, ints, e, m)

value-rows : (ns : List Node) (w : World) (ys : List ℤ) (rs : List Row) → All (IsRow ns) rs → value_under (extension ns w) (rows_times ys rs) ≡ sum_of_rows (map (row_of ns) rs) ys w
value-rows ns w ys [] are = refl
value-rows ns w [] (r ∷ rs) are = refl
value-rows ns w (y ∷ ys) (r ∷ rs) are =
    rw (value-plus (extension ns w) (row_times y r) (rows_times ys rs), value-row ns w y r (All-head (IsRow ns) r rs are), value-rows ns w ys rs (All-tail (IsRow ns) r rs are)) refl

-- the claim that nothing is allowed speaks of the evidence alone
pub value-nothing : (ns : List Node) (w : World) (given : Option ℕ) (both : ℕ) (q : Query) (d : Dual) → IfSome given (λ g. g < length ns) → q.evidence ≡ given_at ns given
    → value_under (extension ns w) (claimed_of Nothing given both d) ≡ claimed_in Nothing q d w
value-nothing ns w given both q d there e = value-condition ns w d.head given there ∙ ap (λ f. d.head *ℤ indicator f w) (sym e)

pub value-claimed : (kind : ClaimKind) (ns : List Node) (w : World) (q : stored.Query) (d : Dual) → HasNodes ns q.formula q.given q.both
    → value_under (extension ns w) (claimed_of kind q.given q.both d) ≡ claimed_in kind (query_of ns q) d w
value-claimed Nothing ns w q d has = value-nothing ns w q.given q.both (query_of ns q) d has.given_there refl
value-claimed Lower ns w q d has =
    let v = extension ns w in
    omega (
      arith,
      ints,
      value-plus v (at_condition d.head q.given) (at_node (neg_ℤ d.top) q.both),
      value-condition ns w d.head q.given has.given_there,
      value-both ns w (neg_ℤ d.top) q.formula q.given q.both has,
      neg-*ℤ d.top (indicator (And (tree_at ns q.formula) (given_at ns q.given)) w),
    )
value-claimed Upper ns w q d has =
    let v = extension ns w in
    omega (
      arith,
      ints,
      value-plus v (at_node d.top q.both) (at_condition (neg_ℤ d.head) q.given),
      value-condition ns w (neg_ℤ d.head) q.given has.given_there,
      value-both ns w d.top q.formula q.given q.both has,
      neg-*ℤ d.head (indicator (given_at ns q.given) w),
    )

-- a combination over nodes, where its claim has the value of the claim in the world
pub value-combination : (kind : ClaimKind) (ns : List Node) (w : World) (given : Option ℕ) (both : ℕ) (rs : List Row) (q : Query) (d : Dual) → All (IsRow ns) rs
    → value_under (extension ns w) (claimed_of kind given both d) ≡ claimed_in kind q d w
    → value_under (extension ns w) (combination_of kind given both rs d) ≡ combination kind (map (row_of ns) rs) q d w
value-combination kind ns w given both rs q d are claim =
    omega (arith, ints, value-plus (extension ns w) (claimed_of kind given both d) (rows_times d.rows rs), claim, value-rows ns w d.rows rs are)
