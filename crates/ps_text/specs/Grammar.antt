-- What tokens derive. A derivation is plain data, and its tokens are a function of it.
use Rattle.std.specs.Prelude.{◌≡◌, ℕ, ◌+◌, ◌-◌, ◌*◌, ◌^◌, ◌<◌, ◌≤◌, Bool, true, false, ◌||◌, IsTrue, List}
use Rattle.std.specs.Prelude.{[], ◌∷◌, ◌++◌, length, Option, Some, None, is_some, codes}
pub use Rattle.ps_meaning.specs.Names.{is_reserved}
use Rattle.ps_text.specs.declared.limits.TheConstants.{LONGEST_WORD, MOST_OPEN, GREATEST_DENOMINATOR}
use Rattle.ps_text.specs.declared.limits.TheConstants.{MOST_DECIMALS, GREATEST_NUMBER, MOST_TERMS}
use Rattle.ps_text.specs.declared.version.Version.{Version}
use Rattle.ps_text.specs.declared.version.Version.TheVariants.{One, Two}
use Rattle.ps_text.specs.Tokens.{Token, Word, Number, Sign, Numeral, Whole, Quotient, Decimal}
use Rattle.ps_text.specs.Tokens.{Open, Close, OpenBracket, CloseBracket, Comma, Semicolon, Bang, Ampersand}
use Rattle.ps_text.specs.Tokens.{Symbol, Bar, Arrow, DoubleArrow, Equals, GreaterEquals, LessEquals, Plus, Minus}

-- how a formula is written
pub data FormulaSyntax : Type 0 where
  Name : (letters : List ℕ) → FormulaSyntax
  Truth Falsity : FormulaSyntax
  Not : (operand : FormulaSyntax) → FormulaSyntax
  Group : (inner : FormulaSyntax) → FormulaSyntax
  And Or Implies Iff : (left right : FormulaSyntax) → FormulaSyntax

-- the tokens of a formula
abbrev pub spelled : FormulaSyntax → List Token
spelled (Name w) = Word w ∷ []
spelled Truth = Word (codes "true") ∷ []
spelled Falsity = Word (codes "false") ∷ []
spelled (Not f) = Sign Bang ∷ spelled f
spelled (Group f) = Sign Open ∷ spelled f ++ Sign Close ∷ []
spelled (And f g) = spelled f ++ Sign Ampersand ∷ spelled g
spelled (Or f g) = spelled f ++ Sign Bar ∷ spelled g
spelled (Implies f g) = spelled f ++ Sign Arrow ∷ spelled g
spelled (Iff f g) = spelled f ++ Sign DoubleArrow ∷ spelled g

-- how tightly what is written binds
abbrev pub level : FormulaSyntax → ℕ
level (Iff f g) = 1
level (Implies f g) = 2
level (Or f g) = 3
level (And f g) = 4
level f = 5

-- names are names, and each operand binds tightly enough: `<->`, `|` and `&` group to the left, `->` to the right
abbrev pub IsWellFormed : FormulaSyntax → Type 0
IsWellFormed (Name w) = (is_reserved w ≡ false) × (length w ≤ LONGEST_WORD)
IsWellFormed Truth = Unit {0}
IsWellFormed Falsity = Unit {0}
IsWellFormed (Not f) = (5 ≤ level f) × IsWellFormed f
IsWellFormed (Group f) = IsWellFormed f
IsWellFormed (And f g) = (4 ≤ level f) × (5 ≤ level g) × IsWellFormed f × IsWellFormed g
IsWellFormed (Or f g) = (3 ≤ level f) × (4 ≤ level g) × IsWellFormed f × IsWellFormed g
IsWellFormed (Implies f g) = (3 ≤ level f) × (2 ≤ level g) × IsWellFormed f × IsWellFormed g
IsWellFormed (Iff f g) = (1 ≤ level f) × (2 ≤ level g) × IsWellFormed f × IsWellFormed g

-- where n are open before, no more of `!`, `(` and `->` are ever open than may be:
-- a `!` during its operand, a `(` up to its `)`, a `->` during its right side
abbrev pub Nests : ℕ → FormulaSyntax → Type 0
Nests n (Name w) = Unit {0}
Nests n Truth = Unit {0}
Nests n Falsity = Unit {0}
Nests n (Not f) = (n < MOST_OPEN) × Nests (n + 1) f
Nests n (Group f) = (n < MOST_OPEN) × Nests (n + 1) f
Nests n (And f g) = Nests n f × Nests n g
Nests n (Or f g) = Nests n f × Nests n g
Nests n (Implies f g) = Nests n f × (n < MOST_OPEN) × Nests (n + 1) g
Nests n (Iff f g) = Nests n f × Nests n g

-- the probability of a formula, perhaps given a condition
pub record Prob : Type 0 where
  pub formula : FormulaSyntax
  pub given : Option FormulaSyntax

-- the probability of a formula, given nothing
abbrev pub alone : FormulaSyntax → Prob
alone f = record { formula = f; given = None }

-- a number, perhaps with a `-` before it
pub record Signed : Type 0 where
  pub minus : Bool
  pub size : Numeral

-- a term of a linear sentence: whether a `-` stands before it, its coefficient, where one is spelled, and the formula whose
-- probability it takes
pub record Term : Type 0 where
  pub minus : Bool
  pub coefficient : Option Numeral
  pub formula : FormulaSyntax

-- how the left side of a sentence is bounded, by numbers of one kind
pub data RelationBy (N : Type 0) : Type 0 where
  Exactly AtLeast AtMost : (value : N) → RelationBy N
  Within : (least most : N) → RelationBy N

-- how a probability is bounded
abbrev pub Relation : Type 0
Relation = RelationBy Numeral

-- how a sum of terms is bounded
abbrev pub SignedRelation : Type 0
SignedRelation = RelationBy Signed

-- a sentence, a linear sentence or a query
pub data ItemSyntax : Type 0 where
  Sentence : (prob : Prob) (relation : Relation) → ItemSyntax
  Linear : (terms : List Term) (relation : SignedRelation) → ItemSyntax
  Query : (prob : Prob) → ItemSyntax

-- a text: its version and its items
pub record TextSyntax : Type 0 where
  pub version : Version
  pub items : List ItemSyntax

-- the tokens of a condition: none where there is none
abbrev pub given_tokens : Option FormulaSyntax → List Token
given_tokens None = []
given_tokens (Some f) = Word (codes "given") ∷ spelled f

-- the tokens of a probability
abbrev pub prob_tokens : Prob → List Token
prob_tokens p = Word (codes "P") ∷ Sign Open ∷ spelled p.formula ++ given_tokens p.given ++ Sign Close ∷ []

-- a `-`, where one stands
abbrev pub minus_tokens : Bool → List Token
minus_tokens true = Sign Minus ∷ []
minus_tokens false = []

-- the tokens of a number that may have a `-` before it
abbrev pub signed_tokens : Signed → List Token
signed_tokens x = minus_tokens x.minus ++ Number x.size ∷ []

-- the tokens of a coefficient: none where none is spelled
abbrev pub coefficient_tokens : Option Numeral → List Token
coefficient_tokens None = []
coefficient_tokens (Some x) = Number x ∷ []

-- the tokens of a term behind its sign
abbrev pub term_tokens : Term → List Token
term_tokens t = coefficient_tokens t.coefficient ++ prob_tokens (alone t.formula)

-- the sign before a term that isn't the first
abbrev pub term_sign : Bool → Symbol
term_sign true = Minus
term_sign false = Plus

-- the tokens of terms that stand behind others
abbrev pub further_tokens : List Term → List Token
further_tokens [] = []
further_tokens (t ∷ ts) = Sign (term_sign t.minus) ∷ (term_tokens t ++ further_tokens ts)

-- the tokens of terms: before the first one only a `-` may stand
abbrev pub terms_tokens : List Term → List Token
terms_tokens [] = []
terms_tokens (t ∷ ts) = minus_tokens t.minus ++ (term_tokens t ++ further_tokens ts)

-- the tokens of a relation, by those of a number
abbrev pub relation_tokens_by : {N : Type 0} → (N → List Token) → RelationBy N → List Token
relation_tokens_by number (Exactly x) = Sign Equals ∷ number x
relation_tokens_by number (AtLeast x) = Sign GreaterEquals ∷ number x
relation_tokens_by number (AtMost x) = Sign LessEquals ∷ number x
relation_tokens_by number (Within x y) =
    Word (codes "in") ∷ Sign OpenBracket ∷ (number x ++ Sign Comma ∷ (number y ++ Sign CloseBracket ∷ []))

-- the tokens of a relation
abbrev pub relation_tokens : Relation → List Token
relation_tokens r = relation_tokens_by (λ x. Number x ∷ []) r

-- the tokens of a linear sentence's relation
abbrev pub signed_relation_tokens : SignedRelation → List Token
signed_relation_tokens r = relation_tokens_by signed_tokens r

-- the tokens of a sentence or a query
abbrev pub item_tokens : ItemSyntax → List Token
item_tokens (Sentence p r) = prob_tokens p ++ relation_tokens r ++ Sign Semicolon ∷ []
item_tokens (Linear ts r) = terms_tokens ts ++ signed_relation_tokens r ++ Sign Semicolon ∷ []
item_tokens (Query p) = Word (codes "query") ∷ prob_tokens p ++ Sign Semicolon ∷ []

-- the tokens of these items, one after the other
abbrev pub items_tokens : List ItemSyntax → List Token
items_tokens [] = []
items_tokens (e ∷ es) = item_tokens e ++ items_tokens es

-- the version is the number that is spelled `1` or `2`
abbrev pub version_digits : Version → List ℕ
version_digits One = codes "1"
version_digits Two = codes "2"

-- the tokens of a text up to and with these items
abbrev pub tokens_up_to : TextSyntax → List Token
tokens_up_to es = Word (codes "psat") ∷ Number (Whole (version_digits es.version)) ∷ Sign Semicolon ∷ items_tokens es.items

-- the tokens of a text
abbrev pub text_tokens : TextSyntax → List Token
text_tokens es = tokens_up_to es ++ Word (codes "end") ∷ Sign Semicolon ∷ []

-- the number that digits spell after those that spell n
abbrev pub value_from : ℕ → List ℕ → ℕ
value_from n [] = n
value_from n (d ∷ ds) = value_from (10 * n + (d - 48)) ds

-- the number that digits spell
abbrev pub value : List ℕ → ℕ
value ds = value_from 0 ds

-- the value is at most this number, the denominator isn't 0, and denominator and decimals are within their limits
abbrev pub IsNumberUpTo : ℕ → Numeral → Type 0
IsNumberUpTo n (Whole ds) = value ds ≤ n
IsNumberUpTo n (Quotient ds es) = (0 < value es) × (value es ≤ GREATEST_DENOMINATOR) × (value ds ≤ n * value es)
IsNumberUpTo n (Decimal ds es) = (length es ≤ MOST_DECIMALS) × (value (ds ++ es) ≤ n * 10 ^ length es)

-- a number of a plain sentence
abbrev pub IsProbability : Numeral → Type 0
IsProbability x = IsNumberUpTo 1 x

-- a number of a linear sentence, without its sign
abbrev pub IsWeight : Numeral → Type 0
IsWeight x = IsNumberUpTo GREATEST_NUMBER x

-- a condition, where there is one, is within the grammar's levels and limits
abbrev pub IsGiven : Option FormulaSyntax → Type 0
IsGiven None = Unit {0}
IsGiven (Some f) = IsWellFormed f × Nests 0 f

-- the nestings of a formula and of its condition are counted apart
pub record IsProb (p : Prob) : Type 0 where
  pub formula : IsWellFormed p.formula
  pub nests : Nests 0 p.formula
  pub given : IsGiven p.given

-- the values of a relation are of a kind
abbrev pub IsRelationBy : {N : Type 0} → (N → Type 0) → RelationBy N → Type 0
IsRelationBy Is (Exactly x) = Is x
IsRelationBy Is (AtLeast x) = Is x
IsRelationBy Is (AtMost x) = Is x
IsRelationBy Is (Within x y) = Is x × Is y

-- the values of a relation are probabilities
abbrev pub IsRelation : Relation → Type 0
IsRelation r = IsRelationBy IsProbability r

-- the values of a linear sentence's relation are within its limit
abbrev pub IsSignedRelation : SignedRelation → Type 0
IsSignedRelation r = IsRelationBy (λ x. IsWeight x.size) r

-- a coefficient, where one is spelled, is within its limit
abbrev pub IsCoefficient : Option Numeral → Type 0
IsCoefficient None = Unit {0}
IsCoefficient (Some x) = IsWeight x

-- within the grammar's levels and limits
pub record IsTerm (t : Term) : Type 0 where
  pub coefficient : IsCoefficient t.coefficient
  pub formula : IsWellFormed t.formula
  pub nests : Nests 0 t.formula

-- each term is within the grammar's levels and limits
abbrev pub AreTerms : List Term → Type 0
AreTerms [] = Unit {0}
AreTerms (t ∷ ts) = IsTerm t × AreTerms ts

-- a term behind these others makes its sentence a linear one: others stand before it, or a `-`, or a coefficient
abbrev pub IsLinearBy : List Term → Bool → Option Numeral → Type 0
IsLinearBy [] minus coefficient = IsTrue (minus || is_some coefficient)
IsLinearBy (t ∷ ts) minus coefficient = Unit {0}

-- there are terms, and a term alone has a `-` or a coefficient: without them it would be a plain sentence's probability
abbrev pub IsLinear : List Term → Type 0
IsLinear [] = ⊥
IsLinear (t ∷ []) = IsLinearBy [] t.minus t.coefficient
IsLinear (t ∷ u ∷ ts) = Unit {0}

-- whether `+`, `-` and linear sentences are the version's
abbrev pub has_linear : Version → Bool
has_linear One = false
has_linear Two = true

-- a linear sentence of the version, within the grammar's levels and limits
pub record IsLinearItem (v : Version) (ts : List Term) (r : SignedRelation) : Type 0 where
  pub version : has_linear v ≡ true
  pub linear : IsLinear ts
  pub few : length ts ≤ MOST_TERMS
  pub terms : AreTerms ts
  pub relation : IsSignedRelation r

-- of the version, and within the grammar's levels and limits
abbrev pub IsWellFormedItem : Version → ItemSyntax → Type 0
IsWellFormedItem v (Sentence p r) = IsProb p × IsRelation r
IsWellFormedItem v (Linear ts r) = IsLinearItem v ts r
IsWellFormedItem v (Query p) = IsProb p

-- each item is of the version, and within the grammar's levels and limits
abbrev pub AreWellFormedItems : Version → List ItemSyntax → Type 0
AreWellFormedItems v [] = Unit {0}
AreWellFormedItems v (e ∷ es) = IsWellFormedItem v e × AreWellFormedItems v es

-- within the grammar's levels and limits
abbrev pub IsWellFormedText : TextSyntax → Type 0
IsWellFormedText es = AreWellFormedItems es.version es.items

-- tokens are those of a text within the grammar's levels and limits
pub record IsDerived (ts : List Token) : Type 0 where
  pub written : TextSyntax
  pub tokens : ts ≡ text_tokens written
  pub within : IsWellFormedText written
