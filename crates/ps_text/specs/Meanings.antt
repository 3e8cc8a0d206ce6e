-- What a derivation states or asks.
use Rattle.std.specs.Prelude.{◌≡◌, ℕ, zero, suc, ℤ, pos, negsuc, ◌*◌, ◌^◌, Bool, true, false, List}
use Rattle.std.specs.Prelude.{[], ◌∷◌, ◌++◌, length, Option, Some, None, codes}
use Rattle.std.specs.Int.{IsGcd}
use Rattle.ps_meaning.specs.Formula as formula
use Rattle.ps_meaning.specs.declared.side.Side.{Side}
use Rattle.ps_meaning.specs.declared.side.Side.TheVariants as side
use Rattle.ps_meaning.specs.Statements as meaning
use Rattle.ps_meaning.specs.Statements.{Ratio, SignedRatio, size_of, PlainStatement, Summand}
use Rattle.ps_meaning.specs.Statements.{LinearStatement, Statement, Question, Item, Stated, Asked}
use Rattle.ps_text.specs.Tokens.{Numeral, Whole, Quotient, Decimal}
use Rattle.ps_text.specs.Grammar.{FormulaSyntax, Name, Truth, Falsity, Not, Group, And, Or, Implies, Iff}
use Rattle.ps_text.specs.Grammar.{Prob, Relation, Exactly, AtLeast, AtMost, Within, ItemSyntax, Sentence, Linear, Query, value}
use Rattle.ps_text.specs.Grammar.{Term, SignedRelation}

-- the formula, without its parentheses
abbrev pub formula_of : FormulaSyntax → formula.Formula meaning.Name
formula_of (Name w) = formula.Atom w
formula_of Truth = formula.Truth
formula_of Falsity = formula.Falsity
formula_of (Not f) = formula.Not (formula_of f)
formula_of (Group f) = formula_of f
formula_of (And f g) = formula.And (formula_of f) (formula_of g)
formula_of (Or f g) = formula.Or (formula_of f) (formula_of g)
formula_of (Implies f g) = formula.Implies (formula_of f) (formula_of g)
formula_of (Iff f g) = formula.Iff (formula_of f) (formula_of g)

-- the formula of a condition, if there is one
abbrev pub given_of : Option FormulaSyntax → Option (formula.Formula meaning.Name)
given_of None = None
given_of (Some f) = Some (formula_of f)

-- the fraction as it is spelled
abbrev pub ratio_of : Numeral → Ratio
ratio_of (Whole ds) = record { num = value ds; den = 1 }
ratio_of (Quotient ds es) = record { num = value ds; den = value es }
ratio_of (Decimal ds es) = record { num = value (ds ++ es); den = 10 ^ length es }

-- the second fraction is the first in lowest terms: both its numbers divided by their greatest common divisor
pub record IsLowest (q r : Ratio) : Type 0 where
  pub divisor : ℕ
  pub greatest : IsGcd q.num q.den divisor
  pub num : q.num ≡ r.num * divisor
  pub den : q.den ≡ r.den * divisor

-- the second fraction is the numeral's value
abbrev pub IsValue : Numeral → Ratio → Type 0
IsValue x r = IsLowest (ratio_of x) r

-- a side, a value and perhaps an upper value are what the relation states
abbrev pub States : Relation → Side → Ratio → Option Ratio → Type 0
States (Exactly x) s r upper = (s ≡ side.Exactly) × IsValue x r × (upper ≡ None)
States (AtLeast x) s r upper = (s ≡ side.AtLeast) × IsValue x r × (upper ≡ None)
States (AtMost x) s r upper = (s ≡ side.AtMost) × IsValue x r × (upper ≡ None)
States (Within x y) s r None = ⊥
States (Within x y) s r (Some q) = (s ≡ side.AtLeast) × IsValue x r × IsValue y q

-- a number with a sign: `-0` is 0
abbrev pub with_sign : Bool → ℕ → ℤ
with_sign false n = pos n
with_sign true zero = pos 0
with_sign true (suc n) = negsuc n

-- the fraction is the value of a numeral behind a `-` or none
pub record IsSignedValue (minus : Bool) (x : Numeral) (r : SignedRatio) : Type 0 where
  pub size : IsValue x (size_of r)
  pub sign : r.num ≡ with_sign minus (size_of r).num

-- a side, a value and perhaps an upper value are what the relation of a linear sentence states
abbrev pub StatesSum : SignedRelation → Side → SignedRatio → Option SignedRatio → Type 0
StatesSum (Exactly x) s r upper = (s ≡ side.Exactly) × IsSignedValue x.minus x.size r × (upper ≡ None)
StatesSum (AtLeast x) s r upper = (s ≡ side.AtLeast) × IsSignedValue x.minus x.size r × (upper ≡ None)
StatesSum (AtMost x) s r upper = (s ≡ side.AtMost) × IsSignedValue x.minus x.size r × (upper ≡ None)
StatesSum (Within x y) s r None = ⊥
StatesSum (Within x y) s r (Some q) = (s ≡ side.AtLeast) × IsSignedValue x.minus x.size r × IsSignedValue y.minus y.size q

-- a coefficient, which is 1 where none is spelled
abbrev pub coefficient_of : Option Numeral → Numeral
coefficient_of None = Whole (codes "1")
coefficient_of (Some x) = x

-- the summand is what the term states
pub record IsSummand (t : Term) (s : Summand) : Type 0 where
  pub coefficient : IsSignedValue t.minus (coefficient_of t.coefficient) s.coefficient
  pub formula : s.formula ≡ formula_of t.formula

-- the summands are what the terms state, in order
abbrev pub AreSummands : List Term → List Summand → Type 0
AreSummands [] [] = Unit {0}
AreSummands (t ∷ ts) (s ∷ ss) = IsSummand t s × AreSummands ts ss
AreSummands [] (s ∷ ss) = ⊥
AreSummands (t ∷ ts) [] = ⊥

-- the statement is what the linear sentence states
pub record IsLinearStatement (ts : List Term) (r : SignedRelation) (s : LinearStatement) : Type 0 where
  pub terms : AreSummands ts s.terms
  pub stated : StatesSum r s.side s.value s.upper

-- the statement is what the sentence states
pub record IsStatement (p : Prob) (r : Relation) (s : PlainStatement) : Type 0 where
  pub formula : s.formula ≡ formula_of p.formula
  pub given : s.given ≡ given_of p.given
  pub stated : States r s.side s.value s.upper

-- what a query asks
abbrev pub question_of : Prob → Question
question_of p = record { formula = formula_of p.formula; given = given_of p.given }

-- the item is what is written
abbrev pub IsItem : ItemSyntax → Item → Type 0
IsItem (Sentence p r) (Stated (meaning.Plain s)) = IsStatement p r s
IsItem (Sentence p r) (Stated (meaning.Linear s)) = ⊥
IsItem (Linear ts r) (Stated (meaning.Plain s)) = ⊥
IsItem (Linear ts r) (Stated (meaning.Linear s)) = IsLinearStatement ts r s
IsItem (Query p) (Asked q) = q ≡ question_of p
IsItem (Sentence p r) (Asked q) = ⊥
IsItem (Linear ts r) (Asked q) = ⊥
IsItem (Query p) (Stated s) = ⊥

-- the items are what is written, in order
abbrev pub AreItems : List ItemSyntax → List Item → Type 0
AreItems [] [] = Unit {0}
AreItems (e ∷ es) (i ∷ is) = IsItem e i × AreItems es is
AreItems [] (i ∷ is) = ⊥
AreItems (e ∷ es) [] = ⊥
