-- What a text states and asks, over atoms by name.
use Rattle.std.specs.Prelude.{ℕ, ℤ, unsigned_abs, List, [], ◌∷◌, Option}
use Rattle.ps_meaning.specs.Formula.{Formula}
use Rattle.ps_meaning.specs.declared.side.Side.{Side}

-- the bytes of an atom's name
abbrev pub Name : Type 0
Name = List ℕ

-- a fraction of whole numbers
pub record Ratio : Type 0 where
  pub num : ℕ
  pub den : ℕ

-- a fraction that may be below 0
pub record SignedRatio : Type 0 where
  pub num : ℤ
  pub den : ℕ

-- its size
abbrev pub size_of : SignedRatio → Ratio
size_of r = record { num = unsigned_abs r.num; den = r.den }

-- a plain sentence as it is stated: the probability of a formula, perhaps given a condition, on one side of a value;
-- an interval is at least its value and at most its upper value
pub record PlainStatement : Type 0 where
  pub formula : Formula Name
  pub given : Option (Formula Name)
  pub side : Side
  pub value : Ratio
  pub upper : Option Ratio

-- a term as it is stated: a coefficient times the probability of a formula
pub record Summand : Type 0 where
  pub coefficient : SignedRatio
  pub formula : Formula Name

-- a linear sentence as it is stated: the sum of its terms on one side of a value; an interval is at least its value and at most
-- its upper value
pub record LinearStatement : Type 0 where
  pub terms : List Summand
  pub side : Side
  pub value : SignedRatio
  pub upper : Option SignedRatio

-- a sentence as it is stated
pub data Statement : Type 0 where
  Plain : (plain : PlainStatement) → Statement
  Linear : (linear : LinearStatement) → Statement

-- a query as it is asked: the probability of a formula, perhaps given a condition
pub record Question : Type 0 where
  pub formula : Formula Name
  pub given : Option (Formula Name)

-- an item of a text: a sentence that is stated, or a query that is asked
pub data Item : Type 0 where
  Stated : (statement : Statement) → Item
  Asked : (question : Question) → Item

-- the sentences among the items, in order
abbrev pub statements_of : List Item → List Statement
statements_of [] = []
statements_of (Stated s ∷ items) = s ∷ statements_of items
statements_of (Asked q ∷ items) = statements_of items

-- the queries among the items, in order
abbrev pub questions_of : List Item → List Question
questions_of [] = []
questions_of (Stated s ∷ items) = questions_of items
questions_of (Asked q ∷ items) = q ∷ questions_of items
