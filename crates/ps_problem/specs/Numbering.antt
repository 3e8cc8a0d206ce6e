-- The problem of a text's items: its formulas and atoms in the order in which they first come.
use Rattle.std.specs.Prelude.{◌≡◌, ◌<◌, ℕ, ℤ, suc, ◌==◌, Bool, true, false, ◌&&◌, List, [], ◌∷◌}
use Rattle.std.specs.Prelude.{◌++◌, pos, Option, Some, None, map, option_map}
use Rattle.std.specs.Prelude.{option_to_list, fold, length, slice_index_or, if◌then◌else◌}
use Rattle.std.specs.List.{list_any}
use Rattle.std.specs.Cmp.Lexicographic.{pointwise}
use Rattle.ps_meaning.specs.Formula.{Formula, with_atoms, subformulas}
use Rattle.ps_meaning.specs.Formula as formula
use Rattle.ps_meaning.specs.declared.side.Side.{Side}
use Rattle.ps_meaning.specs.declared.side.Side.TheVariants as side
use Rattle.ps_meaning.specs.Bounds as meaning
use Rattle.ps_meaning.specs.Statements.{Name, Ratio, SignedRatio, Summand, PlainStatement, LinearStatement, Statement}
use Rattle.ps_meaning.specs.Statements.{Plain, Linear, Question, Item, statements_of, questions_of}
use Rattle.ps_formula.specs.declared.node.Node.{Node}
use Rattle.ps_formula.specs.declared.node.Node.TheVariants as node
use Rattle.ps_problem.specs.declared.bound.Bound.{Bound}
use Rattle.ps_problem.specs.declared.sentence.Linear.{Linear as LinearSentence}
use Rattle.ps_problem.specs.declared.sentence.Sentence.{Sentence}
use Rattle.ps_problem.specs.declared.sentence.Sentence.TheVariants as sentence
use Rattle.ps_problem.specs.Scales.{scaled, scale_of}
use Rattle.ps_problem.specs.declared.query.Query.{Query}
use Rattle.ps_problem.specs.Problems.{Parts, tree_at, given_at}

-- whether two names are the same
abbrev pub same_name : Name → Name → Bool
same_name a b = pointwise (λ x y. x == y) a b

-- whether two formulas over names are the same
abbrev pub same_formula : Formula Name → Formula Name → Bool
same_formula formula.Truth formula.Truth = true
same_formula formula.Falsity formula.Falsity = true
same_formula (formula.Atom a) (formula.Atom b) = same_name a b
same_formula (formula.Not f) (formula.Not g) = same_formula f g
same_formula (formula.And f f') (formula.And g g') = same_formula f g && same_formula f' g'
same_formula (formula.Or f f') (formula.Or g g') = same_formula f g && same_formula f' g'
same_formula (formula.Implies f f') (formula.Implies g g') = same_formula f g && same_formula f' g'
same_formula (formula.Iff f f') (formula.Iff g g') = same_formula f g && same_formula f' g'
same_formula f g = false

-- the first place at which a thing stands in a list
abbrev pub place_in : {X : Type 0} → (X → X → Bool) → List X → X → ℕ
place_in same [] x = 0
place_in same (y ∷ ys) x = if same x y then 0 else suc (place_in same ys x)

-- each thing of a list stands first at its own place
abbrev pub AreOnce : {X : Type 0} → (X → X → Bool) → List X → Type 0
AreOnce {X} same xs = (i : ℕ) (d : X) → i < length xs → place_in same xs (slice_index_or xs i d) ≡ i

-- a list with a thing behind it, unless it is there
abbrev pub with_new : {X : Type 0} → (X → X → Bool) → List X → X → List X
with_new same xs x = if list_any (same x) xs then xs else xs ++ x ∷ []

-- each thing of a list once, in the order in which they first come
abbrev pub different : {X : Type 0} → (X → X → Bool) → List X → List X
different same xs = fold (with_new same) [] xs

-- the formulas to be numbered for a formula and perhaps a condition: their subformulas, then the two together
abbrev pub numbered_for : Formula Name → Option (Formula Name) → List (Formula Name)
numbered_for f None = subformulas f
numbered_for f (Some g) = subformulas f ++ subformulas g ++ formula.And f g ∷ []

-- the formulas to be numbered for terms: their subformulas in order
abbrev pub numbered_in_terms : List Summand → List (Formula Name)
numbered_in_terms [] = []
numbered_in_terms (t ∷ ts) = subformulas t.formula ++ numbered_in_terms ts

-- the formulas to be numbered for a statement
abbrev pub numbered_in : Statement → List (Formula Name)
numbered_in (Plain s) = numbered_for s.formula s.given
numbered_in (Linear s) = numbered_in_terms s.terms

-- the formulas to be numbered for statements
abbrev pub numbered_in_statements : List Statement → List (Formula Name)
numbered_in_statements [] = []
numbered_in_statements (s ∷ ss) = numbered_in s ++ numbered_in_statements ss

-- the formulas to be numbered for questions
abbrev pub numbered_in_questions : List Question → List (Formula Name)
numbered_in_questions [] = []
numbered_in_questions (q ∷ qs) = numbered_for q.formula q.given ++ numbered_in_questions qs

-- the different formulas of some items, those of all statements first
abbrev pub formulas_of : List Item → List (Formula Name)
formulas_of items = different same_formula (numbered_in_statements (statements_of items)
    ++ numbered_in_questions (questions_of items))

-- the names of the atoms among formulas, in order
abbrev pub names_among : List (Formula Name) → List Name
names_among [] = []
names_among (formula.Atom a ∷ fs) = a ∷ names_among fs
names_among (f ∷ fs) = names_among fs

-- a formula as a node over numbered formulas
abbrev pub node_in : List (Formula Name) → Formula Name → Node
node_in fs formula.Truth = node.True
node_in fs formula.Falsity = node.False
node_in fs (formula.Atom a) = node.Atom (place_in same_name (names_among fs) a)
node_in fs (formula.Not f) = node.Not (place_in same_formula fs f)
node_in fs (formula.And f g) = node.And (place_in same_formula fs f) (place_in same_formula fs g)
node_in fs (formula.Or f g) = node.Or (place_in same_formula fs f) (place_in same_formula fs g)
node_in fs (formula.Implies f g) = node.Implies (place_in same_formula fs f) (place_in same_formula fs g)
node_in fs (formula.Iff f g) = node.Iff (place_in same_formula fs f) (place_in same_formula fs g)

-- formula and condition together
abbrev pub both_of : Formula Name → Option (Formula Name) → Formula Name
both_of f None = f
both_of f (Some g) = formula.And f g

-- a statement's bound on one side
abbrev pub bound_in : List (Formula Name) → PlainStatement → Side → Ratio → Bound
bound_in fs s on value = record {
  formula = place_in same_formula fs s.formula;
  given = option_map (place_in same_formula fs) s.given;
  both = place_in same_formula fs (both_of s.formula s.given);
  side = on;
  num = value.num;
  den = value.den;
}

-- a term over numbered formulas, its coefficient times a scale
abbrev pub term_in : List (Formula Name) → ℕ → Summand → ℕ × ℤ
term_in fs m t = (place_in same_formula fs t.formula, scaled m t.coefficient)

-- a linear statement over numbered formulas, in whole numbers
abbrev pub linear_in : List (Formula Name) → LinearStatement → LinearSentence
linear_in fs s = record {
  terms = map (term_in fs (scale_of s)) s.terms;
  scale = scale_of s;
  side = s.side;
  right = scaled (scale_of s) s.value;
  upper = option_map (scaled (scale_of s)) s.upper;
}

-- a statement as a sentence over numbered formulas
abbrev pub sentence_in : List (Formula Name) → Statement → Sentence
sentence_in fs (Plain s) = sentence.Plain (bound_in fs s s.side s.value) (option_map (bound_in fs s side.AtMost) s.upper)
sentence_in fs (Linear s) = sentence.Linear (linear_in fs s)

-- a question as a query over numbered formulas
abbrev pub query_in : List (Formula Name) → Question → Query
query_in fs q = record {
  formula = place_in same_formula fs q.formula;
  given = option_map (place_in same_formula fs) q.given;
  both = place_in same_formula fs (both_of q.formula q.given);
}

-- the problem of some items
abbrev pub problem_of : List Item → Parts
problem_of items = record {
  names = names_among (formulas_of items);
  nodes = map (node_in (formulas_of items)) (formulas_of items);
  sentences = map (sentence_in (formulas_of items)) (statements_of items);
  queries = map (query_in (formulas_of items)) (questions_of items);
}

-- a formula with each name replaced by its number
abbrev pub numbered : List Name → Formula Name → Formula ℕ
numbered names f = with_atoms (place_in same_name names) f

-- a condition over numbers, which is truth where nothing is given
abbrev pub numbered_given : List Name → Option (Formula Name) → Formula ℕ
numbered_given names None = formula.Truth
numbered_given names (Some g) = numbered names g

-- what a statement says on one side, over numbers
abbrev pub stated_bound : List Name → PlainStatement → Side → Ratio → meaning.Bound
stated_bound names s on value = meaning.Plain (record {
  formula = numbered names s.formula;
  given = numbered_given names s.given;
  side = on;
  num = pos value.num;
  den = pos value.den;
})

-- the formulas of terms over numbers, each with its coefficient times a scale
abbrev pub stated_weights : List Name → ℕ → List Summand → meaning.Weights
stated_weights names m [] = []
stated_weights names m (t ∷ ts) = (numbered names t.formula, scaled m t.coefficient) ∷ stated_weights names m ts

-- what a linear statement says on one side, over numbers: all of it times its scale
abbrev pub stated_sum : List Name → LinearStatement → Side → SignedRatio → meaning.Bound
stated_sum names s on value = meaning.Linear (record {
  terms = stated_weights names (scale_of s) s.terms;
  side = on;
  right = scaled (scale_of s) value;
})

-- what a statement says, over numbers: one bound, and an upper one too where it is an interval
abbrev pub stated_in : List Name → Statement → List meaning.Bound
stated_in names (Plain s) = stated_bound names s s.side s.value ∷ map (stated_bound names s side.AtMost) (option_to_list s.upper)
stated_in names (Linear s) = stated_sum names s s.side s.value ∷ map (stated_sum names s side.AtMost) (option_to_list s.upper)

-- what statements say, over numbers
abbrev pub stated_bounds : List Name → List Statement → List meaning.Bound
stated_bounds names [] = []
stated_bounds names (s ∷ ss) = stated_in names s ++ stated_bounds names ss

-- what the statements of items say, over numbers
abbrev pub stated_by : List Item → List meaning.Bound
stated_by items = stated_bounds (names_among (formulas_of items)) (statements_of items)

-- formula and condition of a question, over numbers
abbrev pub numbered_question : List Name → Question → Formula ℕ × Formula ℕ
numbered_question names q = (numbered names q.formula, numbered_given names q.given)

-- formula and condition that a query's numbers stand for
abbrev pub question_of : List Node → Query → Formula ℕ × Formula ℕ
question_of ns q = (tree_at ns q.formula, given_at ns q.given)

-- what the questions of items ask, over numbers
abbrev pub asked_by : List Item → List (Formula ℕ × Formula ℕ)
asked_by items = map (numbered_question (names_among (formulas_of items))) (questions_of items)

-- what the queries of a problem stand for
abbrev pub queries_of : Parts → List (Formula ℕ × Formula ℕ)
queries_of p = map (question_of p.nodes) p.queries
