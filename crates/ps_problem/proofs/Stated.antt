-- A problem's bounds and queries say what its items say.
use Rattle.std.proofs.Common.{◌≡◌, ℕ, List, [], ◌∷◌, ◌++◌, map, All, Option, Some, None, IfSome, refl, ap, ◌∙◌}
use Rattle.std.specs.Prelude.{option_map, option_to_list}
use Rattle.std.proofs.lemmas.List.{map-append}
use Rattle.std.proofs.lemmas.List.Elements.{All-head, All-tail}
use Rattle.ps_meaning.specs.Bounds as meaning
use Rattle.ps_meaning.specs.Formula.{Formula}
use Rattle.ps_meaning.specs.declared.side.Side.{Side}
use Rattle.ps_meaning.specs.declared.side.Side.TheVariants as side
use Rattle.ps_meaning.specs.Statements.{Name, Ratio, SignedRatio, Summand, PlainStatement, Statement, Plain, Linear, Question, Item, statements_of, questions_of}
use Rattle.ps_problem.specs.Problems.{PlainIn, bounds_of_sentence, bounds_in, bounds_of, bound_of, given_at, weights_at}
use Rattle.ps_problem.specs.declared.sentence.Sentence.TheVariants as sentence
use Rattle.ps_problem.specs.Scales.{scaled, scale_of}
use Rattle.ps_problem.specs.Numbering.{same_formula, place_in, names_among, node_in, bound_in, term_in, sentence_in, query_in, formulas_of, problem_of, numbered_given, stated_bound, stated_weights, stated_sum, stated_in, stated_bounds, numbered_question, question_of}
use Rattle.ps_problem.specs.Numbered.{IsAmong, HasQuestion, HasSummand}
use Rattle.ps_problem.proofs.Trees.{tree-at}
use Rattle.ps_problem.specs.Making.{question_on as question, HasStatement}
use Rattle.ps_problem.proofs.Orders.{Ordered, are-numbered}

module _ (fs : List (Formula Name)) (o : Ordered fs) where
  given-is : (given : Option (Formula Name)) → IfSome given (IsAmong fs) → given_at (map (node_in fs) fs) (option_map (place_in same_formula fs) given) ≡ numbered_given (names_among fs) given
  given-is None h = refl
  given-is (Some g) h = tree-at fs o.led g h

  bound-is : (s : PlainStatement) (on : Side) (value : Ratio) → HasQuestion fs (question s) → bound_of (map (node_in fs) fs) (PlainIn (bound_in fs s on value)) ≡ stated_bound (names_among fs) s on value
  bound-is s on value h = rw (tree-at fs o.led s.formula h.formula, given-is s.given h.given) refl

  weights-are : (m : ℕ) (ts : List Summand) → All (HasSummand fs) ts → weights_at (map (node_in fs) fs) (map (term_in fs m) ts) ≡ stated_weights (names_among fs) m ts
  weights-are m [] h = refl
  weights-are m (t ∷ ts) h = λ i. (tree-at fs o.led t.formula (All-head (HasSummand fs) t ts h) i, scaled m t.coefficient) ∷ weights-are m ts (All-tail (HasSummand fs) t ts h) i

  statement-is : (s : Statement) → HasStatement fs s → map (bound_of (map (node_in fs) fs)) (bounds_of_sentence (sentence_in fs s)) ≡ stated_in (names_among fs) s
  statement-is (Plain s) h = by s.upper
    where
      by : (u : Option Ratio) → map (bound_of (map (node_in fs) fs)) (bounds_of_sentence (sentence.Plain (bound_in fs s s.side s.value) (option_map (bound_in fs s side.AtMost) u)))
          ≡ stated_bound (names_among fs) s s.side s.value ∷ map (stated_bound (names_among fs) s side.AtMost) (option_to_list u)
      by None = ap (λ b. b ∷ []) (bound-is s s.side s.value h)
      by (Some r) = λ i. bound-is s s.side s.value h i ∷ bound-is s side.AtMost r h i ∷ []
  statement-is (Linear s) h = by s.upper
    where
      w : weights_at (map (node_in fs) fs) (map (term_in fs (scale_of s)) s.terms) ≡ stated_weights (names_among fs) (scale_of s) s.terms
      w = weights-are (scale_of s) s.terms h

      by : (u : Option SignedRatio) → map (bound_of (map (node_in fs) fs)) (bounds_of_sentence (sentence.Linear (record {
        terms = map (term_in fs (scale_of s)) s.terms;
        scale = scale_of s;
        side = s.side;
        right = scaled (scale_of s) s.value;
        upper = option_map (scaled (scale_of s)) u;
      })))
          ≡ stated_sum (names_among fs) s s.side s.value ∷ map (stated_sum (names_among fs) s side.AtMost) (option_to_list u)
      by None = λ i. meaning.Linear (record { terms = w i; side = s.side; right = scaled (scale_of s) s.value }) ∷ []
      by (Some r) = λ i. meaning.Linear (record { terms = w i; side = s.side; right = scaled (scale_of s) s.value })
          ∷ meaning.Linear (record { terms = w i; side = side.AtMost; right = scaled (scale_of s) r }) ∷ []

  bounds-are : (ss : List Statement) → All (HasStatement fs) ss → map (bound_of (map (node_in fs) fs)) (bounds_in (map (sentence_in fs) ss)) ≡ stated_bounds (names_among fs) ss
  bounds-are [] h = refl
  bounds-are (s ∷ ss) h =
      map-append (bound_of (map (node_in fs) fs)) (bounds_of_sentence (sentence_in fs s)) (bounds_in (map (sentence_in fs) ss))
      ∙ (λ i. statement-is s (All-head (HasStatement fs) s ss h) i ++ bounds-are ss (All-tail (HasStatement fs) s ss h) i)

  question-is : (q : Question) → HasQuestion fs q → question_of (map (node_in fs) fs) (query_in fs q) ≡ numbered_question (names_among fs) q
  question-is q h = rw (tree-at fs o.led q.formula h.formula, given-is q.given h.given) refl

  questions-are : (qs : List Question) → All (HasQuestion fs) qs → map (question_of (map (node_in fs) fs)) (map (query_in fs) qs) ≡ map (numbered_question (names_among fs)) qs
  questions-are [] h = refl
  questions-are (q ∷ qs) h = rw (question-is q (All-head (HasQuestion fs) q qs h), questions-are qs (All-tail (HasQuestion fs) q qs h)) refl

pub bounds-stated : (items : List Item) → bounds_of (problem_of items) ≡ stated_bounds (names_among (formulas_of items)) (statements_of items)
bounds-stated items = let n = are-numbered items in bounds-are (formulas_of items) n.order (statements_of items) n.statements

pub queries-asked : (items : List Item) → map (question_of (problem_of items).nodes) (problem_of items).queries ≡ map (numbered_question (names_among (formulas_of items))) (questions_of items)
queries-asked items = let n = are-numbered items in questions-are (formulas_of items) n.order (questions_of items) n.questions
