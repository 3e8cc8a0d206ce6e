-- The ground formula of a first-order formula: a propositional formula over atoms by name.
use Rattle.std.specs.Prelude.{List, [], ◌∷◌, ◌++◌, map, fold, option_map}
use Rattle.std.specs.List.{flat_map}
use Rattle.ps_meaning.specs.Formula.{Formula}
use Rattle.ps_meaning.specs.Formula as formula
use Rattle.ps_meaning.specs.Statements.{Name, Statement, Question, Item}
use Rattle.ps_meaning.specs.Statements as meaning
use Rattle.ps_problem.specs.Problems.{Parts}
use Rattle.ps_problem.specs.Numbering.{problem_of}
use Rattle.ps_first_order.specs.declared.limits.TheConstants.{UNDERSCORE}
use Rattle.ps_first_order.specs.FirstOrder.{FirstOrder, Signature, Assignment, unassigned, assigned, constant_of}
use Rattle.ps_first_order.specs.FirstOrder as first_order
use Rattle.ps_first_order.specs.Texts.{PlainStatement, Summand, LinearStatement, FirstOrderStatement, Plain, Linear}
use Rattle.ps_first_order.specs.Texts.{FirstOrderQuestion, FirstOrderItem, Stated, Asked}

-- the name of a ground atom: the names of the predicate and of the constants, joined by `_`
abbrev pub atom_name : Name → List Name → Name
atom_name p cs = p ++ flat_map (λ c. UNDERSCORE ∷ c) cs

-- the formulas in order, grouped to the left; truth where there are none
abbrev pub conjunction : List (Formula Name) → Formula Name
conjunction [] = formula.Truth
conjunction (f ∷ fs) = fold formula.And f fs

-- the formulas in order, grouped to the left; falsity where there are none
abbrev pub disjunction : List (Formula Name) → Formula Name
disjunction [] = formula.Falsity
disjunction (f ∷ fs) = fold formula.Or f fs

-- the ground formula over these constants: of `forall x (f)` the conjunction of f for each constant in order, and of
-- `exists x (f)` the disjunction likewise
abbrev pub ground_under : FirstOrder → List Name → Assignment → Formula Name
ground_under first_order.Truth cs a = formula.Truth
ground_under first_order.Falsity cs a = formula.Falsity
ground_under (first_order.Holds p ts) cs a = formula.Atom (atom_name p (map (constant_of a) ts))
ground_under (first_order.Not f) cs a = formula.Not (ground_under f cs a)
ground_under (first_order.And f g) cs a = formula.And (ground_under f cs a) (ground_under g cs a)
ground_under (first_order.Or f g) cs a = formula.Or (ground_under f cs a) (ground_under g cs a)
ground_under (first_order.Implies f g) cs a = formula.Implies (ground_under f cs a) (ground_under g cs a)
ground_under (first_order.Iff f g) cs a = formula.Iff (ground_under f cs a) (ground_under g cs a)
ground_under (first_order.ForAll x f) cs a = conjunction (map (λ c. ground_under f cs (assigned a x c)) cs)
ground_under (first_order.Exists x f) cs a = disjunction (map (λ c. ground_under f cs (assigned a x c)) cs)

-- the ground formula of a sentence
abbrev pub ground_formula : Signature → FirstOrder → Formula Name
ground_formula s f = ground_under f s.constants unassigned

-- a plain statement over ground formulas
abbrev pub ground_plain : Signature → PlainStatement → meaning.PlainStatement
ground_plain s t = record {
  formula = ground_formula s t.formula;
  given = option_map (ground_formula s) t.given;
  side = t.side;
  value = t.value;
  upper = t.upper;
}

-- a term over a ground formula
abbrev pub ground_summand : Signature → Summand → meaning.Summand
ground_summand s t = record { coefficient = t.coefficient; formula = ground_formula s t.formula }

-- a linear statement over ground formulas
abbrev pub ground_linear : Signature → LinearStatement → meaning.LinearStatement
ground_linear s t = record {
  terms = map (ground_summand s) t.terms;
  side = t.side;
  value = t.value;
  upper = t.upper;
}

-- a statement over ground formulas
abbrev pub ground_statement : Signature → FirstOrderStatement → Statement
ground_statement s (Plain t) = meaning.Plain (ground_plain s t)
ground_statement s (Linear t) = meaning.Linear (ground_linear s t)

-- a question over ground formulas
abbrev pub ground_question : Signature → FirstOrderQuestion → Question
ground_question s q = record { formula = ground_formula s q.formula; given = option_map (ground_formula s) q.given }

-- an item over ground formulas
abbrev pub ground_item : Signature → FirstOrderItem → Item
ground_item s (Stated t) = meaning.Stated (ground_statement s t)
ground_item s (Asked q) = meaning.Asked (ground_question s q)

-- the items over ground formulas, in order
abbrev pub ground_items : Signature → List FirstOrderItem → List Item
ground_items s items = map (ground_item s) items

-- the problem of a text: the one of its ground items
abbrev pub ground_problem : Signature → List FirstOrderItem → Parts
ground_problem s items = problem_of (ground_items s items)
