-- What a text over listed constants states and asks.
use Rattle.std.specs.Prelude.{List, [], ◌∷◌, ◌++◌, map, All, Option, option_to_list}
use Rattle.ps_meaning.specs.declared.side.Side.{Side}
use Rattle.ps_meaning.specs.Statements.{Ratio, SignedRatio}
use Rattle.ps_first_order.specs.FirstOrder.{FirstOrder, Signature, IsSignature, IsSentence}

-- a plain sentence as it is stated: the probability of a first-order sentence, perhaps given a condition, on one side of a
-- value; an interval is at least its value and at most its upper value
pub record PlainStatement : Type 0 where
  pub formula : FirstOrder
  pub given : Option FirstOrder
  pub side : Side
  pub value : Ratio
  pub upper : Option Ratio

-- a term as it is stated: a coefficient times the probability of a first-order sentence
pub record Summand : Type 0 where
  pub coefficient : SignedRatio
  pub formula : FirstOrder

-- a linear sentence as it is stated: the sum of its terms on one side of a value; an interval is at least its value and at most
-- its upper value
pub record LinearStatement : Type 0 where
  pub terms : List Summand
  pub side : Side
  pub value : SignedRatio
  pub upper : Option SignedRatio

-- a sentence as it is stated
pub data FirstOrderStatement : Type 0 where
  Plain : (plain : PlainStatement) → FirstOrderStatement
  Linear : (linear : LinearStatement) → FirstOrderStatement

-- a query as it is asked: the probability of a first-order sentence, perhaps given a condition
pub record FirstOrderQuestion : Type 0 where
  pub formula : FirstOrder
  pub given : Option FirstOrder

-- an item of a text: a sentence that is stated, or a query that is asked
pub data FirstOrderItem : Type 0 where
  Stated : (statement : FirstOrderStatement) → FirstOrderItem
  Asked : (question : FirstOrderQuestion) → FirstOrderItem

-- the sentences among the items, in order
abbrev pub statements_of : List FirstOrderItem → List FirstOrderStatement
statements_of [] = []
statements_of (Stated t ∷ items) = t ∷ statements_of items
statements_of (Asked q ∷ items) = statements_of items

-- the queries among the items, in order
abbrev pub questions_of : List FirstOrderItem → List FirstOrderQuestion
questions_of [] = []
questions_of (Stated t ∷ items) = questions_of items
questions_of (Asked q ∷ items) = q ∷ questions_of items

-- the formulas of a probability: its own, and its condition where there is one
abbrev pub sentences_in : FirstOrder → Option FirstOrder → List FirstOrder
sentences_in f given = f ∷ option_to_list given

-- the formulas of a statement
abbrev pub stated_sentences : FirstOrderStatement → List FirstOrder
stated_sentences (Plain t) = sentences_in t.formula t.given
stated_sentences (Linear t) = map (λ u. u.formula) t.terms

-- the formulas of an item
abbrev pub item_sentences : FirstOrderItem → List FirstOrder
item_sentences (Stated t) = stated_sentences t
item_sentences (Asked q) = sentences_in q.formula q.given

-- all formulas of a text
abbrev pub sentences_of : List FirstOrderItem → List FirstOrder
sentences_of [] = []
sentences_of (i ∷ items) = item_sentences i ++ sentences_of items

-- the signature is one, and the formulas of each item are sentences
pub record IsText (s : Signature) (items : List FirstOrderItem) : Type 0 where
  pub signature : IsSignature s
  pub sentences : All (IsSentence s) (sentences_of items)
