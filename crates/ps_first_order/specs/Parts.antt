-- The first-order formulas that numbered parts stand for.
use Rattle.std.specs.Prelude.{◌<◌, ◌≤◌, ◌-◌, ℕ, List, [], ◌∷◌, ◌++◌, length, map, take, drop, All, slice_index_or}
use Rattle.ps_meaning.specs.Statements.{Name}
use Rattle.ps_problem.specs.Problems.{name_at}
use Rattle.ps_problem.specs.Numbering.{AreOnce, same_name}
use Rattle.ps_first_order.specs.declared.limits.TheConstants.{MOST_CONSTANTS}
use Rattle.ps_first_order.specs.declared.part.Argument.{Argument}
use Rattle.ps_first_order.specs.declared.part.Argument.TheVariants as argument
use Rattle.ps_first_order.specs.declared.part.Connective.{Connective}
use Rattle.ps_first_order.specs.declared.part.Connective.TheVariants as connective
use Rattle.ps_first_order.specs.declared.part.Quantifier.{Quantifier}
use Rattle.ps_first_order.specs.declared.part.Quantifier.TheVariants as quantifier
use Rattle.ps_first_order.specs.declared.part.Part.{Part}
use Rattle.ps_first_order.specs.declared.part.Part.TheVariants as part
use Rattle.ps_first_order.specs.declared.part.FirstOrderParts.{FirstOrderParts}
use Rattle.ps_first_order.specs.FirstOrder.{FirstOrder, Term, Constant, Variable}
use Rattle.ps_first_order.specs.FirstOrder as first_order

-- the term of a number
abbrev pub term_of : FirstOrderParts → Argument → Term
term_of p (argument.Constant n) = Constant (name_at p.constants n)
term_of p (argument.Variable n) = Variable (name_at p.variables n)

-- two formulas, joined by a connective
abbrev pub joined_by : Connective → FirstOrder → FirstOrder → FirstOrder
joined_by connective.And f g = first_order.And f g
joined_by connective.Or f g = first_order.Or f g
joined_by connective.Implies f g = first_order.Implies f g
joined_by connective.Iff f g = first_order.Iff f g

-- a formula with a variable bound
abbrev pub bound_by : Quantifier → Name → FirstOrder → FirstOrder
bound_by quantifier.ForAll x f = first_order.ForAll x f
bound_by quantifier.Exists x f = first_order.Exists x f

-- the formula of an operand
abbrev pub operand : List FirstOrder → ℕ → FirstOrder
operand fs i = slice_index_or fs i first_order.Truth

-- the terms of a predicate
abbrev pub terms_of : FirstOrderParts → ℕ → ℕ → List Term
terms_of p start end = map (term_of p) (take (end - start) (drop start p.arguments))

-- the formula of a part over the formulas of the parts before it
abbrev pub formula_over : FirstOrderParts → List FirstOrder → Part → FirstOrder
formula_over p fs part.True = first_order.Truth
formula_over p fs part.False = first_order.Falsity
formula_over p fs (part.Holds n start end) = first_order.Holds (name_at p.predicates n) (terms_of p start end)
formula_over p fs (part.Not a) = first_order.Not (operand fs a)
formula_over p fs (part.Joined c a b) = joined_by c (operand fs a) (operand fs b)
formula_over p fs (part.Bound q x a) = bound_by q (name_at p.variables x) (operand fs a)

-- the formulas of earlier parts, and behind them those of these parts in order
abbrev pub formulas_from : FirstOrderParts → List FirstOrder → List Part → List FirstOrder
formulas_from p fs [] = fs
formulas_from p fs (q ∷ qs) = formulas_from p (fs ++ formula_over p fs q ∷ []) qs

-- the formula of each part
abbrev pub formulas_in : FirstOrderParts → List FirstOrder
formulas_in p = formulas_from p [] p.parts

-- a term's number is in range
abbrev pub IsArgument : FirstOrderParts → Argument → Type 0
IsArgument p (argument.Constant n) = n < length p.constants
IsArgument p (argument.Variable n) = n < length p.variables

-- the operands stand before this place, and all other numbers are in range
abbrev pub Fits : FirstOrderParts → ℕ → Part → Type 0
Fits p n part.True = Unit {0}
Fits p n part.False = Unit {0}
Fits p n (part.Holds i start end) = (i < length p.predicates) × (start ≤ end) × (end ≤ length p.arguments)
Fits p n (part.Not a) = a < n
Fits p n (part.Joined c a b) = (a < n) × (b < n)
Fits p n (part.Bound q x a) = (x < length p.variables) × (a < n)

-- parts in order
pub record AreParts (p : FirstOrderParts) : Type 0 where
  pub some : 0 < length p.constants
  pub few : length p.constants ≤ MOST_CONSTANTS
  pub once : AreOnce same_name p.variables
  pub arguments : All (IsArgument p) p.arguments
  pub fit : (i : ℕ) (d : Part) → i < length p.parts → Fits p i (slice_index_or p.parts i d)
