-- Which derivation a state of the machine stands for.
use Rattle.std.specs.Prelude.{◌≡◌, ◌<◌, true, false, List, [], ◌∷◌, ◌++◌, Option, Some, None, length, option_map}
use Rattle.ps_meaning.specs.Formula.{Formula}
use Rattle.ps_meaning.specs.Statements.{Name}
use Rattle.ps_meaning.specs.declared.side.Side.TheVariants as side
use Rattle.ps_text.specs.Tokens.{Token, Sign}
use Rattle.ps_text.specs.Grammar.{FormulaSyntax, Prob, Within, ItemSyntax, Signed, Term}
use Rattle.ps_text.specs.Meanings.{formula_of, given_of, IsSignedValue, coefficient_of, AreItems}
use Rattle.ps_text.specs.ExpectedTokens.{refusal}
use Rattle.ps_text.specs.BegunFormulas.{Frame, BegunNot, BegunGroup, BegunAnd, BegunOr, BegunImplies, BegunIff}
use Rattle.ps_text.specs.PartialParses.{Parse, InPsat, InVersion, InHeadEnd, InItem, InQueryProb, InTextEnd, InDone}
use Rattle.ps_text.specs.PartialParses.{InTerm, InTermProb, InParen, InOperand, InOperator}
use Rattle.ps_text.specs.PartialParses.{InRelation, InBracket, InFirst, InNumber, InComma}
use Rattle.ps_text.specs.PartialParses.{InSecond, InBracketEnd, InItemEnd, Lead, OfSentence, OfQuery, OfTerm}
use Rattle.ps_text.specs.PartialParses.{Left, OneProb, Terms, sentence_of, state_of, IsParse, parsed}
use Rattle.ps_problem.specs.Drafts.{formula_at, signed_of, AreBelow}
use Rattle.ps_problem.specs.declared.term.Term.{Term as DraftTerm}
use Rattle.ps_read.specs.declared.operator.Operator.{Operator}
use Rattle.ps_read.specs.declared.operator.Operator.TheVariants as operator
use Rattle.ps_read.specs.Machine.{ItemSoFar, Work, Machine, side_in, last_term, next}

-- the operator of what is begun in a formula
abbrev pub operator_of : Frame → Operator
operator_of BegunNot = operator.Not
operator_of BegunGroup = operator.Group
operator_of (BegunAnd f) = operator.And
operator_of (BegunOr f) = operator.Or
operator_of (BegunImplies f) = operator.Implies
operator_of (BegunIff f) = operator.Iff

-- the operators of what is begun, the last begun first
abbrev pub operators_of : List Frame → List Operator
operators_of [] = []
operators_of (x ∷ fs) = operator_of x ∷ operators_of fs

-- their left operands, the last one last
abbrev pub lefts_of : List Frame → List (Formula Name)
lefts_of [] = []
lefts_of (BegunNot ∷ fs) = lefts_of fs
lefts_of (BegunGroup ∷ fs) = lefts_of fs
lefts_of (BegunAnd f ∷ fs) = lefts_of fs ++ formula_of f ∷ []
lefts_of (BegunOr f ∷ fs) = lefts_of fs ++ formula_of f ∷ []
lefts_of (BegunImplies f ∷ fs) = lefts_of fs ++ formula_of f ∷ []
lefts_of (BegunIff f ∷ fs) = lefts_of fs ++ formula_of f ∷ []

-- what waits
abbrev pub waiting_operators : Parse → List Operator
waiting_operators (InOperand es q c fs) = operators_of fs
waiting_operators (InOperator es q c fs f) = operators_of fs
waiting_operators p = []

-- which formulas stand open
abbrev pub open_formulas : Parse → List (Formula Name)
open_formulas (InOperand es q c fs) = lefts_of fs
open_formulas (InOperator es q c fs f) = lefts_of fs ++ formula_of f ∷ []
open_formulas p = []

-- the items that are in the draft: an item is there as soon as its last value is, or a query's probability
abbrev pub drafted_items : Parse → List ItemSyntax
drafted_items InPsat = []
drafted_items InVersion = []
drafted_items (InHeadEnd v) = []
drafted_items (InItem es) = es.items
drafted_items (InQueryProb es) = es.items
drafted_items (InTextEnd es) = es.items
drafted_items (InDone es) = es.items
drafted_items (InTerm es ts m) = es.items
drafted_items (InTermProb es ts m x) = es.items
drafted_items (InParen es q) = es.items
drafted_items (InOperand es q c fs) = es.items
drafted_items (InOperator es q c fs f) = es.items
drafted_items (InRelation es l) = es.items
drafted_items (InBracket es l) = es.items
drafted_items (InFirst es l m) = es.items
drafted_items (InNumber es l s m) = es.items
drafted_items (InComma es l x) = es.items
drafted_items (InSecond es l x m) = es.items
drafted_items (InBracketEnd es l x y) = es.items ++ sentence_of l (Within x y) ∷ []
drafted_items (InItemEnd es e) = es.items ++ e ∷ []

-- behind `given` the item's formula is the one before it
abbrev pub HasFormula : List (Formula Name) → Option FormulaSyntax → ItemSoFar → Type 0
HasFormula fs None i = i.conditional ≡ false
HasFormula fs (Some f) i = (formula_at fs i.formula ≡ formula_of f) × (i.formula < length fs) × (i.conditional ≡ true)

-- the item's formulas are those of the probability
pub record HasProb (fs : List (Formula Name)) (p : Prob) (i : ItemSoFar) : Type 0 where
  pub formula : formula_at fs i.formula ≡ formula_of p.formula
  pub given : option_map (formula_at fs) i.given ≡ given_of p.given
  pub below : AreBelow (length fs) i.formula i.given

-- the term is what is written, over formulas of the draft
pub record IsDraftedTerm (fs : List (Formula Name)) (t : Term) (d : DraftTerm) : Type 0 where
  pub formula : formula_at fs d.formula ≡ formula_of t.formula
  pub below : d.formula < length fs
  pub coefficient : IsSignedValue t.minus (coefficient_of t.coefficient) (signed_of d.coefficient)

-- the terms are what is written, in order
abbrev pub AreDraftedTerms : List (Formula Name) → List Term → List DraftTerm → Type 0
AreDraftedTerms fs [] [] = Unit {0}
AreDraftedTerms fs (t ∷ ts) (d ∷ ds) = IsDraftedTerm fs t d × AreDraftedTerms fs ts ds
AreDraftedTerms fs [] (d ∷ ds) = ⊥
AreDraftedTerms fs (t ∷ ts) [] = ⊥

-- a linear sentence has these terms so far
pub record HasTerms (fs : List (Formula Name)) (ts : List Term) (i : ItemSoFar) : Type 0 where
  pub query : i.query ≡ false
  pub linear : i.linear ≡ true
  pub terms : AreDraftedTerms fs ts i.terms

-- what stands before the probability was read
abbrev pub HasLead : List (Formula Name) → Lead → ItemSoFar → Type 0
HasLead fs OfSentence i = (i.query ≡ false) × (i.linear ≡ false)
HasLead fs OfQuery i = i.query ≡ true
HasLead fs (OfTerm ts m k) i = HasTerms fs ts i × IsSignedValue m (coefficient_of k) (signed_of i.coefficient)

-- the left side was read
abbrev pub HasLeft : List (Formula Name) → Left → ItemSoFar → Type 0
HasLeft fs (OneProb p) i = (i.query ≡ false) × (i.linear ≡ false) × HasProb fs p i
HasLeft fs (Terms ts t) i = HasTerms fs ts i × IsDraftedTerm fs t (last_term i)

-- the least value of an interval was read
abbrev pub HasLeast : Signed → ItemSoFar → Type 0
HasLeast x i = IsSignedValue x.minus x.size (signed_of i.least)

-- the item so far is what was derived of it
abbrev pub IsItemSoFar : List (Formula Name) → Parse → ItemSoFar → Type 0
IsItemSoFar fs (InTerm es ts m) i = HasTerms fs ts i × (i.minus ≡ m)
IsItemSoFar fs (InTermProb es ts m x) i = HasLead fs (OfTerm ts m (Some x)) i
IsItemSoFar fs (InParen es q) i = HasLead fs q i
IsItemSoFar fs (InOperand es q c gs) i = HasLead fs q i × HasFormula fs c i
IsItemSoFar fs (InOperator es q c gs f) i = HasLead fs q i × HasFormula fs c i
IsItemSoFar fs (InRelation es l) i = HasLeft fs l i
IsItemSoFar fs (InBracket es l) i = HasLeft fs l i × (i.side ≡ side.AtLeast) × (i.minus ≡ false)
IsItemSoFar fs (InFirst es l m) i = HasLeft fs l i × (i.side ≡ side.AtLeast) × (i.minus ≡ m)
IsItemSoFar fs (InNumber es l s m) i = HasLeft fs l i × (i.side ≡ side_in (Sign s)) × (i.minus ≡ m)
IsItemSoFar fs (InComma es l x) i = HasLeft fs l i × (i.side ≡ side.AtLeast) × HasLeast x i × (i.minus ≡ false)
IsItemSoFar fs (InSecond es l x m) i = HasLeft fs l i × (i.side ≡ side.AtLeast) × HasLeast x i × (i.minus ≡ m)
IsItemSoFar fs p i = Unit {0}

-- the work is that of a derivation
pub record IsWorkOf (p : Parse) (w : Work) : Type 0 where
  pub operators : w.pending.operators ≡ waiting_operators p
  pub «open» : w.pending.draft.«open» ≡ open_formulas p
  pub items : AreItems (drafted_items p) w.pending.draft.items
  pub item : IsItemSoFar w.pending.draft.formulas p w.item

-- the machine stands for a derivation within the grammar's levels and limits
pub record Represents (p : Parse) (m : Machine) : Type 0 where
  pub sound : IsParse p
  pub state : m.state ≡ state_of p
  pub work : IsWorkOf p m.work

-- the machine stands for some derivation
pub record IsParsed (m : Machine) : Type 0 where
  pub parse : Parse
  pub stands : Represents parse m

-- behind a token that isn't refused the machine stands for the derivation with that token
abbrev pub RepresentsAfter : Parse → Machine → Token → Type 0
RepresentsAfter p m t = Represents p m → refusal m.state t ≡ None → Represents (parsed p t) (next m t)
