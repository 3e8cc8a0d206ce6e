-- What a draft of a problem holds.
use Rattle.std.specs.Prelude.{◌≤◌, ◌<◌, ◌-◌, ℕ, List, [], ◌∷◌, ◌++◌, Option, length, map}
use Rattle.std.specs.Prelude.{option_map, take, All, IfSome, slice_index_or}
use Rattle.ps_meaning.specs.Formula.{Formula}
use Rattle.ps_meaning.specs.Formula as formula
use Rattle.ps_meaning.specs.declared.side.Side.{Side}
use Rattle.ps_meaning.specs.Statements.{Name, Ratio, SignedRatio, Summand, PlainStatement}
use Rattle.ps_meaning.specs.Statements.{LinearStatement, Statement, Plain, Linear}
use Rattle.ps_meaning.specs.Statements.{Question, Item, Stated, Asked}
use Rattle.ps_text.specs.Canonical.{canonical_nesting, IsReduced, IsUpper, IsReducedWeight, IsSumUpper}
use Rattle.ps_text.specs.declared.limits.TheConstants.{MOST_TERMS}
use Rattle.ps_problem.specs.declared.term.Signed.{Signed}
use Rattle.ps_problem.specs.declared.term.Term.{Term}
use Rattle.ps_problem.specs.declared.limits.TheConstants.{MOST_NESTING}
use Rattle.ps_problem.specs.declared.mark.Mark.{Mark}
use Rattle.ps_problem.specs.declared.mark.Mark.TheVariants as mark
use Rattle.ps_problem.specs.Problems.{name_at}
use Rattle.ps_problem.specs.Numbering.{same_name, with_new}

-- the names so far, the formulas that stand open (a stack, the last one last), the formulas that have ended, and
-- the items in order
pub record Drafted : Type 0 where
  pub names : List Name
  pub «open» : List (Formula Name)
  pub formulas : List (Formula Name)
  pub items : List Item

-- how many operands a mark takes
abbrev pub arity : Mark → ℕ
arity mark.True = 0
arity mark.False = 0
arity (mark.Name n) = 0
arity mark.Not = 1
arity mark.And = 2
arity mark.Or = 2
arity mark.Implies = 2
arity mark.Iff = 2

-- the formula that stands so far below the top of a stack, 1 for the top
abbrev pub from_top : List (Formula Name) → ℕ → Formula Name
from_top fs k = slice_index_or fs (length fs - k) formula.Truth

-- the formula that a mark makes over the formulas that stand open
abbrev pub made_by : List Name → List (Formula Name) → Mark → Formula Name
made_by names fs mark.True = formula.Truth
made_by names fs mark.False = formula.Falsity
made_by names fs (mark.Name n) = formula.Atom (name_at names n)
made_by names fs mark.Not = formula.Not (from_top fs 1)
made_by names fs mark.And = formula.And (from_top fs 2) (from_top fs 1)
made_by names fs mark.Or = formula.Or (from_top fs 2) (from_top fs 1)
made_by names fs mark.Implies = formula.Implies (from_top fs 2) (from_top fs 1)
made_by names fs mark.Iff = formula.Iff (from_top fs 2) (from_top fs 1)

-- the formulas that stand open after a mark: it takes its operands, and its formula stands last
abbrev pub marked : List Name → List (Formula Name) → Mark → List (Formula Name)
marked names fs m = take (length fs - arity m) fs ++ made_by names fs m ∷ []

-- a name's number was given out
abbrev pub NameBelow : ℕ → Mark → Type 0
NameBelow n (mark.Name i) = i < n
NameBelow n other = Unit {0}

-- a numerator and a denominator as a fraction
abbrev pub ratio_of : ℕ × ℕ → Ratio
ratio_of r = record { num = r.0; den = r.1 }

-- a fraction that may be below 0
abbrev pub signed_of : Signed → SignedRatio
signed_of s = record { num = s.num; den = s.den }

-- a sum has terms, and no more than may be, and its numbers are in lowest terms and within the limits
pub record HasReducedNumbers (s : LinearStatement) : Type 0 where
  pub some : 1 ≤ length s.terms
  pub few : length s.terms ≤ MOST_TERMS
  pub coefficients : All (λ t. IsReducedWeight t.coefficient) s.terms
  pub value : IsReducedWeight s.value
  pub upper : IsSumUpper s.side s.upper

-- an item's values are in lowest terms and within the limits
abbrev pub HasReducedValues : Item → Type 0
HasReducedValues (Stated (Plain s)) = IsReduced s.value × IsUpper s.side s.upper
HasReducedValues (Stated (Linear s)) = HasReducedNumbers s
HasReducedValues (Asked q) = Unit {0}

-- the canonical spellings of an item's formulas don't nest too deep
abbrev pub IsNested : Item → Type 0
IsNested (Stated (Linear s)) = All (λ t. canonical_nesting t.formula ≤ MOST_NESTING) s.terms
IsNested (Stated (Plain s)) = (canonical_nesting s.formula ≤ MOST_NESTING)
    × IfSome s.given (λ g. canonical_nesting g ≤ MOST_NESTING)
IsNested (Asked q) = (canonical_nesting q.formula ≤ MOST_NESTING) × IfSome q.given (λ g. canonical_nesting g ≤ MOST_NESTING)

-- the formula of a number
abbrev pub formula_at : List (Formula Name) → ℕ → Formula Name
formula_at fs i = slice_index_or fs i formula.Truth

-- the question over formulas by number
abbrev pub question_at : List (Formula Name) → ℕ → Option ℕ → Question
question_at fs f g = record { formula = formula_at fs f; given = option_map (formula_at fs) g }

-- the statement over formulas by number, with a value on a side, and perhaps an upper value
abbrev pub statement_at : List (Formula Name) → ℕ → Option ℕ → Side → Ratio → Option Ratio → PlainStatement
statement_at fs f g s value upper = record {
  formula = formula_at fs f;
  given = option_map (formula_at fs) g;
  side = s;
  value = value;
  upper = upper;
}

-- the summand of a term over formulas by number
abbrev pub summand_at : List (Formula Name) → Term → Summand
summand_at fs t = record { coefficient = signed_of t.coefficient; formula = formula_at fs t.formula }

-- the sum of terms over formulas by number, with a value on a side, and perhaps an upper value
abbrev pub sum_at : List (Formula Name) → List Term → Side → Signed → Option Signed → LinearStatement
sum_at fs ts s value upper = record {
  terms = map (summand_at fs) ts;
  side = s;
  value = signed_of value;
  upper = option_map signed_of upper;
}

-- the number of a term's formula was given out, and its coefficient is in lowest terms and within the limits
pub record IsDraftTerm (n : ℕ) (t : Term) : Type 0 where
  pub formula : t.formula < n
  pub coefficient : IsReducedWeight (signed_of t.coefficient)

-- the numbers of a formula and perhaps a condition were given out
abbrev pub AreBelow : ℕ → ℕ → Option ℕ → Type 0
AreBelow n f g = (f < n) × IfSome g (λ i. i < n)

-- a draft with a name behind its names, unless it is there
abbrev pub with_name : Drafted → Name → Drafted
with_name d name = record d { names = with_new same_name d.names name }

-- a draft behind a mark
abbrev pub with_mark : Drafted → Mark → Drafted
with_mark d m = record d { «open» = marked d.names d.«open» m }

-- a draft whose open formula has ended
abbrev pub with_formula : Drafted → Drafted
with_formula d = record d { «open» = []; formulas = d.formulas ++ d.«open» }

-- a draft with one more item
abbrev pub with_item : Drafted → Item → Drafted
with_item d item = record d { items = d.items ++ item ∷ [] }

-- a draft with a sentence more, over its formulas by number
abbrev pub with_statement : Drafted → ℕ → Option ℕ → Side → ℕ × ℕ → Option (ℕ × ℕ) → Drafted
with_statement d f g s value upper = with_item d
    (Stated (Plain (statement_at d.formulas f g s (ratio_of value) (option_map ratio_of upper))))

-- a draft with a linear sentence more, over its formulas by number
abbrev pub with_sum : Drafted → List Term → Side → Signed → Option Signed → Drafted
with_sum d ts s value upper = with_item d (Stated (Linear (sum_at d.formulas ts s value upper)))

-- a draft with a query more, over its formulas by number
abbrev pub with_question : Drafted → ℕ → Option ℕ → Drafted
with_question d f g = with_item d (Asked (question_at d.formulas f g))
