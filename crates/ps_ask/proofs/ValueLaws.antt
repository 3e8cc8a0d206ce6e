-- The value of a query in a distribution.
use Rattle.std.proofs.Common.{◌≡◌, ℕ, ◌<◌, ℤ, pos, negsuc, ◌*ℤ◌, ◌≤ℤ◌, ◌+ℤ◌, unsigned_abs, Bool, true, false, cond, List, length, get_or, Option, Some, None, sym, ap, subst, ◌∙◌, arith}
use Rattle.std.specs.Prelude.{IfSome}
use Rattle.std.proofs.lemmas.Int.{ints}
use Rattle.std.proofs.lemmas.List.{get_or_default}
use Rattle.std.proofs.Math.ListN.{get_or-map as read-map}
use Rattle.ps_meaning.specs.Formula.{World, Truth, is_true}
use Rattle.ps_meaning.specs.Distribution.{weight}
use Rattle.ps_meaning.specs.Rational.{Rational, fraction}
use Rattle.ps_meaning.proofs.IntRing.{*ℤ_comm}
use Rattle.ps_formula.specs.declared.node.Node.{Node}
use Rattle.ps_formula.specs.Nodes.{trees, truths}
use Rattle.ps_formula.proofs.Trees.{length-truths}
use Rattle.ps_problem.specs.declared.query.Query as stored
use Rattle.ps_problem.specs.Problems.{Parts, HasNodes, bounds_of, given_at, tree_at}
use Rattle.ps_answer.specs.declared.answer.Model.{Model}
use Rattle.ps_answer.specs.declared.answer.Weighted.{Weighted}
use Rattle.ps_claims.specs.Answers.{ShowsConsistent}
use Rattle.ps_claims.specs.Certificates.{entries, model_of}
use Rattle.ps_claims.proofs.Tight.{quotient-ratio}
use Rattle.ps_frac.specs.Decimals.{HasDecimals}
use Rattle.ps_valid.proofs.Tables.{weight-both}
use Rattle.ps_ask.specs.Reached.{IsReached}
use Rattle.ps_ask.specs.Weights.{weight_in}

-- the truth of a node is that of its tree
pub truth_at : (ns : List Node) (w : World) (n : ℕ) → n < length ns → get_or (truths ns w) n false ≡ is_true (tree_at ns n) w
truth_at ns w n lt = get_or_default (truths ns w) n false true (rw length-truths lt) ∙ read-map (λ f. is_true f w) (trees ns) n Truth

-- a fraction's cross products
pub quotient_cross : (x : Rational) (over under : ℤ) → pos 1 ≤ℤ under → x ≡ fraction over (unsigned_abs under) → (over *ℤ pos x.under) ≡ (x.over *ℤ under)
quotient_cross x over (pos n) some e = quotient-ratio x over n (omega (arith, ints, some)) (sym e)
quotient_cross x over (negsuc n) some e = absurd (omega (arith, ints, some))

reached : (p : Parts) (q : stored.Query) (m : Model) (x : Rational) (over under : ℤ) → HasNodes p.nodes q.formula q.given q.both
    → ShowsConsistent (length p.names) (bounds_of p) (model_of m) → over ≡ weight (entries m.worlds) (tree_at p.nodes q.both)
    → under ≡ weight (entries m.worlds) (given_at p.nodes q.given) → pos 1 ≤ℤ under → (over *ℤ pos x.under) ≡ (x.over *ℤ under) → HasDecimals x → IsReached p q x
reached p q m x over under nodes shown over_is under_is some equal decimals =
    let d = entries m.worlds in
    let both = over_is ∙ weight-both p.nodes d q.formula q.given q.both nodes.both_is in
    record {
      worlds = d;
      reached = record {
        allowed = record { model = shown.model; positive = rw (← under_is) some };
        equal = ap (λ z. pos x.under *ℤ z) (sym both) ∙ *ℤ_comm (pos x.under) over ∙ equal ∙ ap (λ z. x.over *ℤ z) under_is;
      };
      decimals = decimals;
    }

pub value_reached : (p : Parts) (q : stored.Query) (m : Model) (o : Option Rational) (over under : ℤ) → HasNodes p.nodes q.formula q.given q.both
    → ShowsConsistent (length p.names) (bounds_of p) (model_of m) → over ≡ weight (entries m.worlds) (tree_at p.nodes q.both)
    → under ≡ weight (entries m.worlds) (given_at p.nodes q.given) → IfSome o (λ x. pos 1 ≤ℤ under) → IfSome o (λ x. (over *ℤ pos x.under) ≡ (x.over *ℤ under))
    → IfSome o HasDecimals → IfSome o (IsReached p q)
value_reached p q m (Some x) over under nodes shown over_is under_is some equal decimals = reached p q m x over under nodes shown over_is under_is some equal decimals
value_reached p q m None over under nodes shown over_is under_is some equal decimals = tt

-- a sum with the weight of one more world, by the truth of a node in it
pub world_added : (o : Option ℤ) (p : Parts) (n : ℕ) (w : Weighted) (values : List Bool) (b : Bool) (s sum : ℤ) → n < length p.nodes → values ≡ truths p.nodes w.world
    → b ≡ get_or values n b → s ≡ cond b w.weight (pos 0) → IfSome o (λ z. z ≡ sum +ℤ s) → IfSome o (λ z. z ≡ sum +ℤ weight_in p n w)
world_added o p n w values b s sum lt values_is b_is s_is added =
    let within : n < length values = rw (values_is, length-truths p.nodes w.world) lt in
    let truth : b ≡ is_true (tree_at p.nodes n) w.world = b_is ∙ get_or_default values n b false within ∙ ap (λ (vs : List Bool). get_or vs n false) values_is ∙ truth_at p.nodes w.world n lt in
    let same : s ≡ weight_in p n w = s_is ∙ ap (λ (x : Bool). cond x w.weight (pos 0)) truth in
    subst (λ (x : ℤ). IfSome o (λ z. z ≡ sum +ℤ x)) same added
