-- The problem of items within the limits is in order.
use Rattle.std.proofs.Common.{◌≡◌, ℕ, ◌<◌, ◌≤◌, ◌+◌, Bool, true, false, List, [], ◌∷◌, length, map, All, Option, Some, None, IfSome, IsSome, is_some, Ok, if◌then◌else◌, refl, sym, ap, ◌∙◌, arith}
use Rattle.std.specs.Option.{option_map}
use Rattle.std.proofs.lemmas.List.{length-map}
use Rattle.std.proofs.lemmas.List.Elements.{All-nil, All-cons, All-head, All-tail, All-append, All-map, All-weaker}
use Rattle.ps_meaning.specs.Formula.{Formula, And, with_atoms}
use Rattle.ps_meaning.specs.declared.side.Side.{Side}
use Rattle.ps_meaning.specs.declared.side.Side.TheVariants as side
use Rattle.ps_meaning.specs.Statements.{Name, Ratio, SignedRatio, Summand, PlainStatement, LinearStatement, Statement, Plain, Linear, Question, Item, Stated, Asked, statements_of, questions_of}
use Rattle.ps_problem.specs.Problems.{PlainIn, LinearIn, bounds_of_sentence, bounds_in, tree_at, HasNodes, IsBound, IsTerm, IsLinear, IsBoundIn, AreSmall, terms_size, AreParts}
use Rattle.ps_problem.specs.declared.sentence.Sentence.TheVariants as sentence
use Rattle.ps_problem.specs.declared.limits.TheConstants.{MOST_SIZES}
use Rattle.ps_problem.specs.Scales.{scaled, scale_of, size_at, sizes_at, coefficients, is_too_large}
use Rattle.ps_problem.proofs.InLowestTerms.{are_over, are_narrow, upper_side, size-scaled}
use Rattle.ps_problem.specs.Numbering.{same_name, same_formula, place_in, names_among, node_in, both_of, bound_in, term_in, linear_in, sentence_in, query_in, formulas_of, problem_of}
use Rattle.ps_problem.specs.Counts.{has_large_numbers, counted}
use Rattle.ps_text.specs.Canonical.{IsReduced, IsUpper}
use Rattle.ps_problem.specs.Drafts.{HasReducedNumbers, HasReducedValues}
use Rattle.ps_problem.specs.Numbered.{IsAmong, HasQuestion, HasSummand}
use Rattle.ps_problem.proofs.Lists.{place-below}
use Rattle.ps_problem.proofs.Counted.{IsSmall, counted-formulas, counted-limits}
use Rattle.ps_problem.proofs.Trees.{tree-at, are-nodes, atoms-below, different-names}
use Rattle.ps_problem.specs.Making.{question_on as question, HasStatement}
use Rattle.ps_problem.proofs.Orders.{Ordered, are-numbered}

-- an upper value is reduced
upper-reduced : (on : Side) (r : Ratio) → IsUpper on (Some r) → IsReduced r
upper-reduced side.AtLeast r h = h
upper-reduced side.AtMost r h = absurd h
upper-reduced side.Exactly r h = absurd h

module _ (fs : List (Formula Name)) (o : Ordered fs) where
  place-there : (f : Formula Name) → IsAmong fs f → place_in same_formula fs f < length (map (node_in fs) fs)
  place-there f a =
      let b : place_in same_formula fs f < length fs = place-below same_formula fs f a in
      let l = length-map fs (node_in fs) in
      omega arith

  -- the nodes of a formula and perhaps a condition
  has-nodes : (f : Formula Name) (given : Option (Formula Name)) → HasQuestion fs (record { formula = f; given = given })
      → HasNodes (map (node_in fs) fs) (place_in same_formula fs f) (option_map (place_in same_formula fs) given) (place_in same_formula fs (both_of f given))
  has-nodes f None h = record { formula_there = place-there f h.formula; given_there = tt; both_there = place-there f h.both; both_is = refl }
  has-nodes f (Some g) h = record {
    formula_there = place-there f h.formula;
    given_there = place-there g h.given;
    both_there = place-there (And f g) h.both;
    both_is =
        let b = tree-at fs o.led (And f g) h.both in
        let l = tree-at fs o.led f h.formula in
        let r = tree-at fs o.led g h.given in
        b ∙ ap (λ t. And t (with_atoms (place_in same_name (names_among fs)) g)) (sym l) ∙ ap (λ t. And (tree_at (map (node_in fs) fs) (place_in same_formula fs f)) t) (sym r);
  }

  is-bound : (s : PlainStatement) (on : Side) (value : Ratio) → HasQuestion fs (question s) → IsReduced value → IsBound (map (node_in fs) fs) (bound_in fs s on value)
  is-bound s on value h r = record { nodes = has-nodes s.formula s.given h; den_least = r.some; den_most = r.small; num_most = (let l = r.least in omega arith) }

  -- the sizes of terms' numbers
  terms-size : (m : ℕ) (ts : List Summand) → terms_size (map (term_in fs m) ts) ≡ sizes_at m (map (λ t. t.coefficient) ts)
  terms-size m [] = refl
  terms-size m (t ∷ ts) = λ i. size-scaled m t.coefficient i + terms-size m ts i

  small-at : (s : LinearStatement) (r : SignedRatio) → sizes_at (scale_of s) (coefficients s) + size_at (scale_of s) r ≤ MOST_SIZES
      → AreSmall (map (term_in fs (scale_of s)) s.terms) (scaled (scale_of s) r)
  small-at s r h = let a = size-scaled (scale_of s) r in let b = terms-size (scale_of s) s.terms in omega arith

  upper-small : (s : LinearStatement) (u : Option SignedRatio) → IfSome u (λ r. sizes_at (scale_of s) (coefficients s) + size_at (scale_of s) r ≤ MOST_SIZES)
      → IfSome (option_map (scaled (scale_of s)) u) (AreSmall (map (term_in fs (scale_of s)) s.terms))
  upper-small s None h = tt
  upper-small s (Some r) h = small-at s r h

  side-is : (s : LinearStatement) (u : Option SignedRatio) → IfSome u (λ r. s.side ≡ side.AtLeast) → IfSome (option_map (scaled (scale_of s)) u) (λ r. s.side ≡ side.AtLeast)
  side-is s None h = tt
  side-is s (Some r) h = h

  is-linear : (s : LinearStatement) → All (HasSummand fs) s.terms → HasReducedNumbers s → is_too_large s ≡ false → IsLinear (map (node_in fs) fs) (linear_in fs s)
  is-linear s h v e =
      let n = are_narrow s e in
      let o = are_over s v in
      record {
        some = (let l = length-map s.terms (term_in fs (scale_of s)) in let k = v.some in omega arith);
        few = (let l = length-map s.terms (term_in fs (scale_of s)) in let k = v.few in omega arith);
        nodes = All-map (IsTerm (map (node_in fs) fs)) (term_in fs (scale_of s)) s.terms
            (All-weaker (HasSummand fs) (λ t. place_in same_formula fs t.formula < length (map (node_in fs) fs)) (λ t a. place-there t.formula a) s.terms h);
        scale_least = o.some;
        scale_most = n.scale;
        small = small-at s s.value n.value;
        small_upper = upper-small s s.upper n.upper;
        side = side-is s s.upper (upper_side s.side s.upper v.upper);
      }

  one-bound : (s : Statement) → HasStatement fs s → HasReducedValues (Stated s) → has_large_numbers s ≡ false → All (IsBoundIn (map (node_in fs) fs)) (bounds_of_sentence (sentence_in fs s))
  one-bound (Plain s) h v e = by s.upper v.1
    where
      by : (u : Option Ratio) → IsUpper s.side u → All (IsBoundIn (map (node_in fs) fs)) (bounds_of_sentence (sentence.Plain (bound_in fs s s.side s.value) (option_map (bound_in fs s side.AtMost) u)))
      by None t = All-cons (IsBoundIn (map (node_in fs) fs)) (PlainIn (bound_in fs s s.side s.value)) [] (is-bound s s.side s.value h v.0) (All-nil (IsBoundIn (map (node_in fs) fs)))
      by (Some r) t = All-cons (IsBoundIn (map (node_in fs) fs)) (PlainIn (bound_in fs s s.side s.value)) (PlainIn (bound_in fs s side.AtMost r) ∷ []) (is-bound s s.side s.value h v.0)
          (All-cons (IsBoundIn (map (node_in fs) fs)) (PlainIn (bound_in fs s side.AtMost r)) [] (is-bound s side.AtMost r h (upper-reduced s.side r t)) (All-nil (IsBoundIn (map (node_in fs) fs))))
  one-bound (Linear s) h v e = by (is_some (linear_in fs s).upper) refl
    where
      is : IsLinear (map (node_in fs) fs) (linear_in fs s)
      is = is-linear s h v e

      lower : IsBoundIn (map (node_in fs) fs) (LinearIn (linear_in fs s) false)
      lower = (is, λ t. absurd (cc))

      by : (b : Bool) → is_some (linear_in fs s).upper ≡ b → All (IsBoundIn (map (node_in fs) fs)) (LinearIn (linear_in fs s) false ∷ (if b then LinearIn (linear_in fs s) true ∷ [] else []))
      by false t = All-cons (IsBoundIn (map (node_in fs) fs)) (LinearIn (linear_in fs s) false) [] lower (All-nil (IsBoundIn (map (node_in fs) fs)))
      by true t = All-cons (IsBoundIn (map (node_in fs) fs)) (LinearIn (linear_in fs s) false) (LinearIn (linear_in fs s) true ∷ []) lower
          (All-cons (IsBoundIn (map (node_in fs) fs)) (LinearIn (linear_in fs s) true) [] (is, λ u. some (linear_in fs s).upper t) (All-nil (IsBoundIn (map (node_in fs) fs))))
        where
          some : {X : Type 0} (o : Option X) → is_some o ≡ true → IsSome o
          some None e = absurd (cc)
          some (Some x) e = refl

  are-bounds : (items : List Item) → All (HasStatement fs) (statements_of items) → All HasReducedValues items → All IsSmall (statements_of items)
      → All (IsBoundIn (map (node_in fs) fs)) (bounds_in (map (sentence_in fs) (statements_of items)))
  are-bounds [] h v n = All-nil (IsBoundIn (map (node_in fs) fs))
  are-bounds (Asked q ∷ items) h v n = are-bounds items h (All-tail HasReducedValues (Asked q) items v) n
  are-bounds (Stated s ∷ items) h v n = All-append (IsBoundIn (map (node_in fs) fs)) (bounds_of_sentence (sentence_in fs s)) (bounds_in (map (sentence_in fs) (statements_of items)))
      (one-bound s (All-head (HasStatement fs) s (statements_of items) h) (All-head HasReducedValues (Stated s) items v) (All-head IsSmall s (statements_of items) n))
      (are-bounds items (All-tail (HasStatement fs) s (statements_of items) h) (All-tail HasReducedValues (Stated s) items v) (All-tail IsSmall s (statements_of items) n))

  are-queries : (qs : List Question) → All (HasQuestion fs) qs → All (λ q. HasNodes (map (node_in fs) fs) q.formula q.given q.both) (map (query_in fs) qs)
  are-queries qs h = All-map (λ q. HasNodes (map (node_in fs) fs) q.formula q.given q.both) (query_in fs) qs
      (All-weaker (HasQuestion fs) (λ q. HasNodes (map (node_in fs) fs) (query_in fs q).formula (query_in fs q).given (query_in fs q).both) (λ q k. has-nodes q.formula q.given k) qs h)

pub parts-in-order : (items : List Item) (fs : List (Formula Name)) → All HasReducedValues items → counted items ≡ Ok fs → AreParts (problem_of items)
parts-in-order items fs reduced e =
    let gs = formulas_of items in
    let n = are-numbered items in
    let c = counted-limits items gs (e ∙ ap Ok (counted-formulas items fs e)) in
    record {
      nodes = are-nodes gs n.order.led n.order.once c.atoms;
      few_nodes = (let l = length-map gs (node_in gs) in let m = c.formulas in omega arith);
      few_atoms = c.atoms;
      names = different-names (names_among gs) n.order.names;
      atoms = atoms-below gs n.order.led;
      bounds = are-bounds gs n.order items n.statements reduced c.small;
      few_bounds = c.bounds gs;
      queries = are-queries gs n.order (questions_of items) n.questions;
      few_queries = (let l = length-map (questions_of items) (query_in gs) in let m = c.queries in omega arith);
    }
