-- A problem's items are those that it was made of, statements first, and make it again.
use Rattle.std.proofs.Common.{◌≡◌, ℕ, ◌<◌, List, [], ◌∷◌, ◌++◌, map, All, Option, Some, None, IfSome, refl, ap, subst, ◌∙◌}
use Rattle.std.specs.Prelude.{option_map}
use Rattle.std.proofs.lemmas.List.Elements.{All-head, All-tail}
use Rattle.ps_meaning.specs.Formula.{Formula, Truth, Falsity, Atom, Not, And, Or, Implies, Iff, with_atoms}
use Rattle.ps_meaning.specs.declared.side.Side.TheVariants as side
use Rattle.ps_meaning.specs.Statements.{Name, Ratio, SignedRatio, Summand, PlainStatement, Statement, Plain, Linear, Question, Item, Stated, Asked, statements_of, questions_of}
use Rattle.ps_problem.specs.Problems.{Parts, tree_at, name_at}
use Rattle.ps_problem.specs.Numbering.{same_name, same_formula, place_in, different, names_among, node_in, bound_in, term_in, sentence_in, query_in, numbered_in_statements, numbered_in_questions, formulas_of, problem_of, numbered}
use Rattle.ps_problem.specs.Numbered.{IsAmong, AreOperandsAmong, HasQuestion, HasSummand}
use Rattle.ps_problem.specs.Making.{question_on as question, HasStatement}
use Rattle.ps_text.specs.Canonical.{listed, IsReducedWeight}
use Rattle.std.specs.Int.{◌∣◌}
use Rattle.ps_problem.specs.Scales.{scaled, scale_of, lowest}
use Rattle.ps_problem.specs.Drafts.{HasReducedValues}
use Rattle.ps_problem.proofs.InLowestTerms.{lowest-back, are_over, upper_reduced}
use Rattle.ps_text.proofs.Sorting.{statements-listed, questions-listed}
use Rattle.ps_problem.specs.Written.{named_at, ratio_at, summands_from, statement_from, question_from, items_from}
use Rattle.ps_problem.proofs.NameLists.{same_name-true, same_name-refl}
use Rattle.ps_problem.proofs.Lists.{place-below, place-get}
use Rattle.ps_problem.proofs.Nodes.{same-true, same-refl}
use Rattle.ps_problem.proofs.Trees.{tree-at, are-ready}
use Rattle.ps_problem.proofs.Orders.{Ordered, are-numbered}

upper-back : (fs : List (Formula Name)) (s : PlainStatement) (u : Option Ratio) → option_map ratio_at (option_map (bound_in fs s side.AtMost) u) ≡ u
upper-back fs s None = refl
upper-back fs s (Some r) = refl

module _ (fs : List (Formula Name)) (o : Ordered fs) where
  pub operands-among : (f : Formula Name) → IsAmong fs f → AreOperandsAmong fs f
  operands-among f a = subst (AreOperandsAmong fs) (place-get same_formula same-true same-refl fs f Truth a) (are-ready fs o.led (place_in same_formula fs f) Truth (place-below same_formula fs f a))

  -- numbers replaced by names again
  names-back : (f : Formula Name) → IsAmong fs f → with_atoms (name_at (names_among fs)) (numbered (names_among fs) f) ≡ f
  names-back Truth a = refl
  names-back Falsity a = refl
  names-back (Atom n) a = ap Atom (place-get same_name same_name-true same_name-refl (names_among fs) n [] (operands-among (Atom n) a))
  names-back (Not f) a = ap Not (names-back f (operands-among (Not f) a))
  names-back (And f g) a = let r = operands-among (And f g) a in λ i. And (names-back f r.0 i) (names-back g r.1 i)
  names-back (Or f g) a = let r = operands-among (Or f g) a in λ i. Or (names-back f r.0 i) (names-back g r.1 i)
  names-back (Implies f g) a = let r = operands-among (Implies f g) a in λ i. Implies (names-back f r.0 i) (names-back g r.1 i)
  names-back (Iff f g) a = let r = operands-among (Iff f g) a in λ i. Iff (names-back f r.0 i) (names-back g r.1 i)

  formula-back : (f : Formula Name) → IsAmong fs f → with_atoms (name_at (names_among fs)) (tree_at (map (node_in fs) fs) (place_in same_formula fs f)) ≡ f
  formula-back f a = ap (with_atoms (name_at (names_among fs))) (tree-at fs o.led f a) ∙ names-back f a

  given-back : (g : Option (Formula Name)) → IfSome g (IsAmong fs) → option_map (λ i. with_atoms (name_at (names_among fs)) (tree_at (map (node_in fs) fs) i)) (option_map (place_in same_formula fs) g) ≡ g
  given-back None h = refl
  given-back (Some g) h = ap Some (formula-back g h)

  module _ (p : Parts) (names : p.names ≡ names_among fs) (nodes : p.nodes ≡ map (node_in fs) fs) where
    formula-at : (f : Formula Name) → IsAmong fs f → named_at p (place_in same_formula fs f) ≡ f
    formula-at f a = (λ i. with_atoms (name_at (names i)) (tree_at (nodes i) (place_in same_formula fs f))) ∙ formula-back f a

    given-at : (g : Option (Formula Name)) → IfSome g (IsAmong fs) → option_map (named_at p) (option_map (place_in same_formula fs) g) ≡ g
    given-at None h = refl
    given-at (Some g) h = ap Some (formula-at g h)

    summands-back : (m : ℕ) (ts : List Summand) → 0 < m → All (HasSummand fs) ts → All (λ t. IsReducedWeight t.coefficient) ts → All (λ t. t.coefficient.den ∣ m) ts
        → summands_from p m (map (term_in fs m) ts) ≡ ts
    summands-back m [] some h k d = refl
    summands-back m (t ∷ ts) some h k d =
        let c = lowest-back m t.coefficient some (All-head (λ u. u.coefficient.den ∣ m) t ts d) (All-head (λ u. IsReducedWeight u.coefficient) t ts k) in
        λ i. record { coefficient = c i; formula = formula-at t.formula (All-head (HasSummand fs) t ts h) i }
        ∷ summands-back m ts some (All-tail (HasSummand fs) t ts h) (All-tail (λ u. IsReducedWeight u.coefficient) t ts k) (All-tail (λ u. u.coefficient.den ∣ m) t ts d) i

    sum-upper-back : (m : ℕ) (u : Option SignedRatio) → 0 < m → IfSome u IsReducedWeight → IfSome u (λ r. r.den ∣ m) → option_map (lowest m) (option_map (scaled m) u) ≡ u
    sum-upper-back m None some h d = refl
    sum-upper-back m (Some r) some h d = ap Some (lowest-back m r some d h)

    statement-back : (s : Statement) → HasStatement fs s → HasReducedValues (Stated s) → statement_from p (sentence_in fs s) ≡ s
    statement-back (Plain s) h v = λ i. Plain (record {
      formula = formula-at s.formula h.formula i;
      given = given-at s.given h.given i;
      side = s.side;
      value = s.value;
      upper = upper-back fs s s.upper i;
    })
    statement-back (Linear s) h v =
        let o = are_over s v in
        let value = lowest-back (scale_of s) s.value o.some o.value v.value in
        let upper = sum-upper-back (scale_of s) s.upper o.some (upper_reduced s.side s.upper v.upper) o.upper in
        let terms = summands-back (scale_of s) s.terms o.some h v.coefficients o.terms in
        λ i. Linear (record { terms = terms i; side = s.side; value = value i; upper = upper i })

    question-back : (q : Question) → HasQuestion fs q → question_from p (query_in fs q) ≡ q
    question-back q h = λ i. record { formula = formula-at q.formula h.formula i; given = given-at q.given h.given i }

    statements-back : (items : List Item) → All (HasStatement fs) (statements_of items) → All HasReducedValues items → map (statement_from p) (map (sentence_in fs) (statements_of items)) ≡ statements_of items
    statements-back [] h v = refl
    statements-back (Asked q ∷ items) h v = statements-back items h (All-tail HasReducedValues (Asked q) items v)
    statements-back (Stated s ∷ items) h v = λ i. statement-back s (All-head (HasStatement fs) s (statements_of items) h) (All-head HasReducedValues (Stated s) items v) i
        ∷ statements-back items (All-tail (HasStatement fs) s (statements_of items) h) (All-tail HasReducedValues (Stated s) items v) i

    questions-back : (qs : List Question) → All (HasQuestion fs) qs → map (question_from p) (map (query_in fs) qs) ≡ qs
    questions-back [] h = refl
    questions-back (q ∷ qs) h = λ i. question-back q (All-head (HasQuestion fs) q qs h) i ∷ questions-back qs (All-tail (HasQuestion fs) q qs h) i

-- the items of a problem are those that it was made of, statements first
pub items-back : (items : List Item) → All HasReducedValues items → items_from (problem_of items) ≡ listed (statements_of items) (questions_of items)
items-back items v =
    let n = are-numbered items in
    let fs = formulas_of items in
    λ i. listed (statements-back (formulas_of items) n.order (problem_of items) refl refl items n.statements v i)
    (questions-back (formulas_of items) n.order (problem_of items) refl refl (questions_of items) n.questions i)

-- the problem of statements and questions
abbrev problem_over : List Statement → List Question → Parts
problem_over ss qs = let fs = different same_formula (numbered_in_statements ss ++ numbered_in_questions qs) in record {
  names = names_among fs;
  nodes = map (node_in fs) fs;
  sentences = map (sentence_in fs) ss;
  queries = map (query_in fs) qs;
}

pub problem-listed : (items : List Item) → problem_of (listed (statements_of items) (questions_of items)) ≡ problem_of items
problem-listed items = λ i. problem_over (statements-listed (statements_of items) (questions_of items) i) (questions-listed (statements_of items) (questions_of items) i)

-- a problem's items make it again
pub problem-back : (items : List Item) → All HasReducedValues items → problem_of (items_from (problem_of items)) ≡ problem_of items
problem-back items v = ap problem_of (items-back items v) ∙ problem-listed items
