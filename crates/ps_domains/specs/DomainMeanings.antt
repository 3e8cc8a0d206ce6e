-- What a derivation of a text over listed constants states or asks.
use Rattle.std.specs.Prelude.{◌≡◌, List, [], ◌∷◌, map, Option, Some, None, if◌then◌else◌}
use Rattle.std.specs.List.{list_any}
use Rattle.ps_meaning.specs.Statements.{Name}
use Rattle.ps_text.specs.Grammar.{Relation, SignedRelation}
use Rattle.ps_text.specs.Meanings.{States, StatesSum, IsSignedValue, coefficient_of}
use Rattle.ps_problem.specs.Numbering.{same_name}
use Rattle.ps_first_order.specs.FirstOrder as first_order
use Rattle.ps_first_order.specs.FirstOrder.{FirstOrder, Signature}
use Rattle.ps_first_order.specs.Texts as meaning
use Rattle.ps_first_order.specs.Parts.{bound_by}
use Rattle.ps_domains.specs.DomainGrammar.{FormulaSyntax, Alone, Applied, Truth, Falsity, Not, Group, And, Or, Implies, Iff}
use Rattle.ps_domains.specs.DomainGrammar.{Quantified, Prob, Term, ItemSyntax, Sentence, Linear, Query}

-- the term of a name: a constant where it is one, and else a variable
abbrev pub term_of : Signature → Name → first_order.Term
term_of s w = if list_any (same_name w) s.constants then first_order.Constant w else first_order.Variable w

-- the formula, without its parentheses
abbrev pub formula_of : Signature → FormulaSyntax → FirstOrder
formula_of s (Alone p) = first_order.Holds p []
formula_of s (Applied p t ts) = first_order.Holds p (map (term_of s) (t ∷ ts))
formula_of s Truth = first_order.Truth
formula_of s Falsity = first_order.Falsity
formula_of s (Not f) = first_order.Not (formula_of s f)
formula_of s (Group f) = formula_of s f
formula_of s (And f g) = first_order.And (formula_of s f) (formula_of s g)
formula_of s (Or f g) = first_order.Or (formula_of s f) (formula_of s g)
formula_of s (Implies f g) = first_order.Implies (formula_of s f) (formula_of s g)
formula_of s (Iff f g) = first_order.Iff (formula_of s f) (formula_of s g)
formula_of s (Quantified q x f) = bound_by q x (formula_of s f)

-- the formula of a condition, if there is one
abbrev pub given_of : Signature → Option FormulaSyntax → Option FirstOrder
given_of s None = None
given_of s (Some f) = Some (formula_of s f)

-- the statement is what the sentence states
pub record IsStatement (s : Signature) (p : Prob) (r : Relation) (t : meaning.PlainStatement) : Type 0 where
  pub formula : t.formula ≡ formula_of s p.formula
  pub given : t.given ≡ given_of s p.given
  pub stated : States r t.side t.value t.upper

-- the summand is what the term states
pub record IsSummand (s : Signature) (t : Term) (u : meaning.Summand) : Type 0 where
  pub coefficient : IsSignedValue t.minus (coefficient_of t.coefficient) u.coefficient
  pub formula : u.formula ≡ formula_of s t.formula

-- the summands are what the terms state, in order
abbrev pub AreSummands : Signature → List Term → List meaning.Summand → Type 0
AreSummands s [] [] = Unit {0}
AreSummands s (t ∷ ts) (u ∷ us) = IsSummand s t u × AreSummands s ts us
AreSummands s [] (u ∷ us) = ⊥
AreSummands s (t ∷ ts) [] = ⊥

-- the statement is what the linear sentence states
pub record IsLinearStatement (s : Signature) (ts : List Term) (r : SignedRelation) (t : meaning.LinearStatement) : Type 0 where
  pub terms : AreSummands s ts t.terms
  pub stated : StatesSum r t.side t.value t.upper

-- what a query asks
abbrev pub question_of : Signature → Prob → meaning.FirstOrderQuestion
question_of s p = record { formula = formula_of s p.formula; given = given_of s p.given }

-- the item is what is written
abbrev pub IsItem : Signature → ItemSyntax → meaning.FirstOrderItem → Type 0
IsItem s (Sentence p r) (meaning.Stated (meaning.Plain t)) = IsStatement s p r t
IsItem s (Sentence p r) (meaning.Stated (meaning.Linear t)) = ⊥
IsItem s (Linear ts r) (meaning.Stated (meaning.Plain t)) = ⊥
IsItem s (Linear ts r) (meaning.Stated (meaning.Linear t)) = IsLinearStatement s ts r t
IsItem s (Query p) (meaning.Asked q) = q ≡ question_of s p
IsItem s (Sentence p r) (meaning.Asked q) = ⊥
IsItem s (Linear ts r) (meaning.Asked q) = ⊥
IsItem s (Query p) (meaning.Stated t) = ⊥

-- the items are what is written, in order
abbrev pub AreItems : Signature → List ItemSyntax → List meaning.FirstOrderItem → Type 0
AreItems s [] [] = Unit {0}
AreItems s (e ∷ es) (i ∷ is) = IsItem s e i × AreItems s es is
AreItems s [] (i ∷ is) = ⊥
AreItems s (e ∷ es) [] = ⊥
