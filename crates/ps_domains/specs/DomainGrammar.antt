-- What the tokens of a text over listed constants derive. A derivation is plain data, and its tokens are a function of it.
use Rattle.std.specs.Prelude.{◌≡◌, ◌≢◌, ℕ, ◌+◌, ◌<◌, ◌≤◌, Bool, false, List, [], ◌∷◌, ◌++◌, length, map, All, AllPairs}
use Rattle.std.specs.Prelude.{◌⊎◌, Option, Some, None, Contains, codes}
use Rattle.ps_meaning.specs.Statements.{Name}
use Rattle.ps_text.specs.declared.limits.TheConstants.{LONGEST_WORD, MOST_OPEN}
use Rattle.ps_text.specs.declared.version.Version.TheVariants.{Two}
use Rattle.ps_text.specs.Tokens.{Token, Word, Number, Sign, Whole, Numeral}
use Rattle.ps_text.specs.declared.symbol.Symbol.TheVariants.{Open, Close, Comma, Semicolon, Bang, Ampersand, Bar}
use Rattle.ps_text.specs.declared.symbol.Symbol.TheVariants.{Arrow, DoubleArrow}
use Rattle.ps_text.specs.Grammar as before
use Rattle.ps_text.specs.Grammar.{Relation, SignedRelation, minus_tokens, coefficient_tokens, term_sign}
use Rattle.ps_text.specs.Grammar.{relation_tokens, signed_relation_tokens}
use Rattle.ps_first_order.specs.declared.part.Quantifier.{Quantifier}
use Rattle.ps_first_order.specs.declared.part.Quantifier.TheVariants as quantifier
use Rattle.ps_first_order.specs.declared.limits.TheConstants.{MOST_CONSTANTS, MOST_PREDICATES, MOST_ARITY}
use Rattle.ps_first_order.specs.FirstOrder.{IsPlain, Predicate, Signature, IsNew}
use Rattle.ps_domains.specs.DomainWords.{is_reserved}

-- how a formula is written
pub data FormulaSyntax : Type 0 where
  Alone : (predicate : List ℕ) → FormulaSyntax
  Applied : (predicate first : List ℕ) (more : List (List ℕ)) → FormulaSyntax
  Truth Falsity : FormulaSyntax
  Not : (operand : FormulaSyntax) → FormulaSyntax
  Group : (inner : FormulaSyntax) → FormulaSyntax
  And Or Implies Iff : (left right : FormulaSyntax) → FormulaSyntax
  Quantified : (quantifier : Quantifier) (variable : List ℕ) (body : FormulaSyntax) → FormulaSyntax

-- the word of a quantifier
abbrev pub quantifier_word : Quantifier → List ℕ
quantifier_word quantifier.ForAll = codes "forall"
quantifier_word quantifier.Exists = codes "exists"

-- names behind another one, with a `,` before each
abbrev pub further_names : List (List ℕ) → List Token
further_names [] = []
further_names (w ∷ ws) = Sign Comma ∷ Word w ∷ further_names ws

-- the tokens of a formula
abbrev pub spelled : FormulaSyntax → List Token
spelled (Alone p) = Word p ∷ []
spelled (Applied p t ts) = Word p ∷ Sign Open ∷ Word t ∷ further_names ts ++ Sign Close ∷ []
spelled Truth = Word (codes "true") ∷ []
spelled Falsity = Word (codes "false") ∷ []
spelled (Not f) = Sign Bang ∷ spelled f
spelled (Group f) = Sign Open ∷ spelled f ++ Sign Close ∷ []
spelled (And f g) = spelled f ++ Sign Ampersand ∷ spelled g
spelled (Or f g) = spelled f ++ Sign Bar ∷ spelled g
spelled (Implies f g) = spelled f ++ Sign Arrow ∷ spelled g
spelled (Iff f g) = spelled f ++ Sign DoubleArrow ∷ spelled g
spelled (Quantified q x f) = Word (quantifier_word q) ∷ Word x ∷ Sign Open ∷ spelled f ++ Sign Close ∷ []

-- the formula in version 2 that has the same connectives, parentheses and nestings: a predicate with its terms is an atom, and a
-- quantifier with its variable is nothing
abbrev pub plain : FormulaSyntax → before.FormulaSyntax
plain (Alone p) = before.Name p
plain (Applied p t ts) = before.Name p
plain Truth = before.Truth
plain Falsity = before.Falsity
plain (Not f) = before.Not (plain f)
plain (Group f) = before.Group (plain f)
plain (And f g) = before.And (plain f) (plain g)
plain (Or f g) = before.Or (plain f) (plain g)
plain (Implies f g) = before.Implies (plain f) (plain g)
plain (Iff f g) = before.Iff (plain f) (plain g)
plain (Quantified q x f) = before.Group (plain f)

-- a name without `_` that is neither reserved nor too long
pub record IsNamed (w : List ℕ) : Type 0 where
  pub free : is_reserved w ≡ false
  pub short : length w ≤ LONGEST_WORD
  pub plain : IsPlain w

-- a predicate of the signature that takes so many terms
abbrev pub Takes : Signature → List ℕ → ℕ → Type 0
Takes s p n = Contains s.predicates (record { name = p; arity = n })

-- a constant, or a variable that is bound there
abbrev pub IsKnown : Signature → List Name → List ℕ → Type 0
IsKnown s bound w = Contains s.constants w ⊎ Contains bound w

-- names stand for what is declared and bound, predicates have as many terms as they take, and where n are open before no more of
-- `!`, `(` and `->` are ever open than may be, also around the terms of a predicate
abbrev pub IsWritten : Signature → List Name → ℕ → FormulaSyntax → Type 0
IsWritten s bound n (Alone p) = Takes s p 0
IsWritten s bound n (Applied p t ts) = Takes s p (length (t ∷ ts)) × All (IsKnown s bound) (t ∷ ts) × (n < MOST_OPEN)
IsWritten s bound n Truth = Unit {0}
IsWritten s bound n Falsity = Unit {0}
IsWritten s bound n (Not f) = (n < MOST_OPEN) × IsWritten s bound (n + 1) f
IsWritten s bound n (Group f) = (n < MOST_OPEN) × IsWritten s bound (n + 1) f
IsWritten s bound n (And f g) = IsWritten s bound n f × IsWritten s bound n g
IsWritten s bound n (Or f g) = IsWritten s bound n f × IsWritten s bound n g
IsWritten s bound n (Implies f g) = IsWritten s bound n f × (n < MOST_OPEN) × IsWritten s bound (n + 1) g
IsWritten s bound n (Iff f g) = IsWritten s bound n f × IsWritten s bound n g
IsWritten s bound n (Quantified q x f) = IsNamed x × IsNew s bound x × (n < MOST_OPEN) × IsWritten s (x ∷ bound) (n + 1) f

-- the probability of a formula, perhaps given a condition
pub record Prob : Type 0 where
  pub formula : FormulaSyntax
  pub given : Option FormulaSyntax

-- a term of a linear sentence: whether a `-` stands before it, its coefficient, where one is spelled, and its formula
pub record Term : Type 0 where
  pub minus : Bool
  pub coefficient : Option Numeral
  pub formula : FormulaSyntax

-- a sentence, a linear sentence or a query
pub data ItemSyntax : Type 0 where
  Sentence : (prob : Prob) (relation : Relation) → ItemSyntax
  Linear : (terms : List Term) (relation : SignedRelation) → ItemSyntax
  Query : (prob : Prob) → ItemSyntax

-- a text: its constants, of which there is a first, its predicates and its items
pub record TextSyntax : Type 0 where
  pub constant : Name
  pub constants : List Name
  pub predicates : List Predicate
  pub items : List ItemSyntax

-- what a text declares
abbrev pub signature_of : TextSyntax → Signature
signature_of e = record { constants = e.constant ∷ e.constants; predicates = e.predicates }

-- the tokens of a condition: none where there is none
abbrev pub given_tokens : Option FormulaSyntax → List Token
given_tokens None = []
given_tokens (Some f) = Word (codes "given") ∷ spelled f

-- the tokens of a probability
abbrev pub prob_tokens : Prob → List Token
prob_tokens p = Word (codes "P") ∷ Sign Open ∷ spelled p.formula ++ given_tokens p.given ++ Sign Close ∷ []

-- the tokens of a term behind its sign
abbrev pub term_tokens : Term → List Token
term_tokens t = coefficient_tokens t.coefficient ++ prob_tokens (record { formula = t.formula; given = None })

-- the tokens of terms that stand behind others
abbrev pub further_tokens : List Term → List Token
further_tokens [] = []
further_tokens (t ∷ ts) = Sign (term_sign t.minus) ∷ (term_tokens t ++ further_tokens ts)

-- the tokens of terms: before the first one only a `-` may stand
abbrev pub terms_tokens : List Term → List Token
terms_tokens [] = []
terms_tokens (t ∷ ts) = minus_tokens t.minus ++ (term_tokens t ++ further_tokens ts)

-- the tokens of an item
abbrev pub item_tokens : ItemSyntax → List Token
item_tokens (Sentence p r) = prob_tokens p ++ relation_tokens r ++ Sign Semicolon ∷ []
item_tokens (Linear ts r) = terms_tokens ts ++ signed_relation_tokens r ++ Sign Semicolon ∷ []
item_tokens (Query p) = Word (codes "query") ∷ prob_tokens p ++ Sign Semicolon ∷ []

-- the tokens of these items, one after the other
abbrev pub items_tokens : List ItemSyntax → List Token
items_tokens [] = []
items_tokens (e ∷ es) = item_tokens e ++ items_tokens es

-- the tokens of the declaration of a predicate, whose arity is one digit
abbrev pub predicate_tokens : Predicate → List Token
predicate_tokens p = Word (codes "pred") ∷ Word p.name ∷ Sign Open ∷ Number (Whole ((48 + p.arity) ∷ [])) ∷ Sign Close
    ∷ Sign Semicolon ∷ []

-- the tokens of declarations of predicates
abbrev pub predicates_tokens : List Predicate → List Token
predicates_tokens [] = []
predicates_tokens (p ∷ ps) = predicate_tokens p ++ predicates_tokens ps

-- the tokens of what a text declares
abbrev pub declared_tokens : TextSyntax → List Token
declared_tokens e = Word (codes "const") ∷ Word e.constant ∷ further_names e.constants
    ++ Sign Semicolon ∷ predicates_tokens e.predicates

-- the tokens of a text up to and with these items
abbrev pub tokens_up_to : TextSyntax → List Token
tokens_up_to e = Word (codes "psat") ∷ Number (Whole (codes "3")) ∷ Sign Semicolon ∷ declared_tokens e ++ items_tokens e.items

-- the tokens of a text
abbrev pub text_tokens : TextSyntax → List Token
text_tokens e = tokens_up_to e ++ Word (codes "end") ∷ Sign Semicolon ∷ []

-- the condition in version 2, if there is one
abbrev pub plain_given : Option FormulaSyntax → Option before.FormulaSyntax
plain_given None = None
plain_given (Some f) = Some (plain f)

-- the probability in version 2
abbrev pub plain_prob : Prob → before.Prob
plain_prob p = record { formula = plain p.formula; given = plain_given p.given }

-- the term in version 2
abbrev pub plain_term : Term → before.Term
plain_term t = record { minus = t.minus; coefficient = t.coefficient; formula = plain t.formula }

-- the item in version 2
abbrev pub plain_item : ItemSyntax → before.ItemSyntax
plain_item (Sentence p r) = before.Sentence (plain_prob p) r
plain_item (Linear ts r) = before.Linear (map plain_term ts) r
plain_item (Query p) = before.Query (plain_prob p)

-- a formula of the text, in which no variable is bound from outside
abbrev pub IsWhole : Signature → FormulaSyntax → Type 0
IsWhole s f = IsWritten s [] 0 f

-- a condition, where there is one, is a formula of the text
abbrev pub IsWholeGiven : Signature → Option FormulaSyntax → Type 0
IsWholeGiven s None = Unit {0}
IsWholeGiven s (Some f) = IsWhole s f

-- the formulas of an item are formulas of the text
abbrev pub HasWhole : Signature → ItemSyntax → Type 0
HasWhole s (Sentence p r) = IsWhole s p.formula × IsWholeGiven s p.given
HasWhole s (Linear ts r) = All (λ t. IsWhole s t.formula) ts
HasWhole s (Query p) = IsWhole s p.formula × IsWholeGiven s p.given

-- an item is one of version 2 but for its formulas, which are formulas of the text
pub record IsWellFormedItem (s : Signature) (e : ItemSyntax) : Type 0 where
  pub plain : before.IsWellFormedItem Two (plain_item e)
  pub written : HasWhole s e

-- the names that a text declares are different and within their limits
pub record AreDeclared (s : Signature) : Type 0 where
  pub few_constants : length s.constants ≤ MOST_CONSTANTS
  pub few_predicates : length s.predicates ≤ MOST_PREDICATES
  pub constants : All IsNamed s.constants
  pub predicates : All (λ p. IsNamed p.name) s.predicates
  pub arities : All (λ p. p.arity ≤ MOST_ARITY) s.predicates
  pub constants_differ : AllPairs (λ a b. a ≢ b) s.constants
  pub predicates_differ : AllPairs (λ p q. p.name ≢ q.name) s.predicates
  pub apart : All (λ p. ¬ Contains s.constants p.name) s.predicates

-- a text within the grammar's levels and limits
pub record IsWellFormedText (e : TextSyntax) : Type 0 where
  pub declared : AreDeclared (signature_of e)
  pub items : All (IsWellFormedItem (signature_of e)) e.items

-- tokens are those of a text within the grammar's levels and limits
pub record IsDerived (ts : List Token) : Type 0 where
  pub written : TextSyntax
  pub tokens : ts ≡ text_tokens written
  pub within : IsWellFormedText written
