-- The canonical text of items: how each is written, and the bytes of what is written.
use Rattle.std.specs.Prelude.{ℕ, ℤ, pos, negsuc, ◌+◌, ◌*◌, ◌<◌, ◌≤◌, ◌==◌, Bool, true, false, nat_le, nat_lt, max, if◌then◌else◌}
use Rattle.std.specs.Prelude.{length, List, [], ◌∷◌, ◌++◌, map, Option, Some, None, codes}
use Rattle.std.specs.Int.{IsGcd}
use Rattle.std.specs.Fmt.{decimal}
use Rattle.ps_meaning.specs.Formula as formula
use Rattle.ps_meaning.specs.declared.side.Side.{Side}
use Rattle.ps_meaning.specs.declared.side.Side.TheVariants as side
use Rattle.ps_meaning.specs.Statements as meaning
use Rattle.ps_meaning.specs.Statements.{Ratio, SignedRatio, size_of, Summand, PlainStatement, LinearStatement}
use Rattle.ps_meaning.specs.Statements.{Statement, Question, Item, Stated, Asked, statements_of, questions_of}
use Rattle.ps_meaning.specs.Names.{IsName}
use Rattle.ps_text.specs.declared.limits.TheConstants.{GREATEST_DENOMINATOR, GREATEST_NUMBER, MOST_TERMS}
use Rattle.ps_text.specs.declared.version.Version.{Version}
use Rattle.ps_text.specs.declared.version.Version.TheVariants.{One, Two}
use Rattle.ps_text.specs.Tokens.{Numeral, Whole, Quotient, numeral_spelling}
use Rattle.ps_text.specs.Grammar.{FormulaSyntax, Name, Truth, Falsity, Not, Group, And, Or, Implies, Iff, level}
use Rattle.ps_text.specs.Grammar.{Nests, Prob, Relation, RelationBy, Exactly, AtLeast, AtMost}
use Rattle.ps_text.specs.Grammar.{Within, ItemSyntax, Sentence, Linear, Query}
use Rattle.ps_text.specs.Grammar.{Signed, Term, SignedRelation, TextSyntax, alone, version_digits}

-- in parentheses where the level is below the required one, and only there
abbrev pub fitted : ℕ → FormulaSyntax → FormulaSyntax
fitted k f = if nat_le k (level f) then f else Group f

-- how a formula is written, with no parentheses but the needed ones
abbrev pub canonical_formula : formula.Formula meaning.Name → FormulaSyntax
canonical_formula formula.Truth = Truth
canonical_formula formula.Falsity = Falsity
canonical_formula (formula.Atom a) = Name a
canonical_formula (formula.Not f) = Not (fitted 5 (canonical_formula f))
canonical_formula (formula.And f g) = And (fitted 4 (canonical_formula f)) (fitted 5 (canonical_formula g))
canonical_formula (formula.Or f g) = Or (fitted 3 (canonical_formula f)) (fitted 4 (canonical_formula g))
canonical_formula (formula.Implies f g) = Implies (fitted 3 (canonical_formula f)) (fitted 2 (canonical_formula g))
canonical_formula (formula.Iff f g) = Iff (fitted 1 (canonical_formula f)) (fitted 2 (canonical_formula g))

-- 1 where an operand of a level stands in parentheses, since more is required
abbrev pub parenthesis : ℕ → ℕ → ℕ
parenthesis required level = if nat_lt level required then 1 else 0

-- how many `!`, `(` and right sides of `->` are open at the deepest place of a formula's canonical spelling, where an
-- operand of this level is required: 1 for `<->`, 2 for `->`, 3 for `|`, 4 for `&`, 5 for the rest
abbrev pub nesting_at : ℕ → formula.Formula meaning.Name → ℕ
nesting_at required formula.Truth = 0
nesting_at required formula.Falsity = 0
nesting_at required (formula.Atom a) = 0
nesting_at required (formula.Not f) = 1 + nesting_at 5 f
nesting_at required (formula.And f g) = parenthesis required 4 + max (nesting_at 4 f) (nesting_at 5 g)
nesting_at required (formula.Or f g) = parenthesis required 3 + max (nesting_at 3 f) (nesting_at 4 g)
nesting_at required (formula.Implies f g) = parenthesis required 2 + max (nesting_at 3 f) (1 + nesting_at 2 g)
nesting_at required (formula.Iff f g) = parenthesis required 1 + max (nesting_at 1 f) (nesting_at 2 g)

-- the nesting of a formula's canonical spelling
abbrev pub canonical_nesting : formula.Formula meaning.Name → ℕ
canonical_nesting f = nesting_at 1 f

-- a whole number, or a quotient
abbrev pub canonical_numeral : Ratio → Numeral
canonical_numeral r = if r.den == 1 then Whole (decimal r.num) else Quotient (decimal r.num) (decimal r.den)

-- how a side, a value and perhaps an upper value are written
abbrev pub canonical_relation : Side → Ratio → Option Ratio → Relation
canonical_relation side.Exactly r upper = Exactly (canonical_numeral r)
canonical_relation side.AtMost r upper = AtMost (canonical_numeral r)
canonical_relation side.AtLeast r None = AtLeast (canonical_numeral r)
canonical_relation side.AtLeast r (Some q) = Within (canonical_numeral r) (canonical_numeral q)

-- how a condition is written, if there is one
abbrev pub canonical_given : Option (formula.Formula meaning.Name) → Option FormulaSyntax
canonical_given None = None
canonical_given (Some f) = Some (canonical_formula f)

-- how the probability of a formula, perhaps given a condition, is written
abbrev pub canonical_prob : formula.Formula meaning.Name → Option (formula.Formula meaning.Name) → Prob
canonical_prob f g = record { formula = canonical_formula f; given = canonical_given g }

-- whether a number is below 0
abbrev pub is_negative : ℤ → Bool
is_negative (pos n) = false
is_negative (negsuc n) = true

-- how a fraction that may be below 0 is written
abbrev pub canonical_signed : SignedRatio → Signed
canonical_signed r = record { minus = is_negative r.num; size = canonical_numeral (size_of r) }

-- how a side, a value and perhaps an upper value of a sum are written
abbrev pub canonical_sum_relation : Side → SignedRatio → Option SignedRatio → SignedRelation
canonical_sum_relation side.Exactly r upper = Exactly (canonical_signed r)
canonical_sum_relation side.AtMost r upper = AtMost (canonical_signed r)
canonical_sum_relation side.AtLeast r None = AtLeast (canonical_signed r)
canonical_sum_relation side.AtLeast r (Some q) = Within (canonical_signed r) (canonical_signed q)

-- how a summand is written: its coefficient is spelled
abbrev pub canonical_term : Summand → Term
canonical_term s = record {
  minus = is_negative s.coefficient.num;
  coefficient = Some (canonical_numeral (size_of s.coefficient));
  formula = canonical_formula s.formula;
}

-- how summands are written, in order
abbrev pub canonical_terms : List Summand → List Term
canonical_terms [] = []
canonical_terms (s ∷ ss) = canonical_term s ∷ canonical_terms ss

-- how an item is written
abbrev pub canonical_item : Item → ItemSyntax
canonical_item (Stated (meaning.Plain s)) =
    Sentence (canonical_prob s.formula s.given) (canonical_relation s.side s.value s.upper)
canonical_item (Stated (meaning.Linear s)) = Linear (canonical_terms s.terms) (canonical_sum_relation s.side s.value s.upper)
canonical_item (Asked q) = Query (canonical_prob q.formula q.given)

-- how the items are written, in order
abbrev pub canonical_items : List Item → List ItemSyntax
canonical_items [] = []
canonical_items (i ∷ is) = canonical_item i ∷ canonical_items is

-- a binary connective has one space on each side, `!` has none
abbrev pub syntax_text : FormulaSyntax → List ℕ
syntax_text (Name w) = w
syntax_text Truth = codes "true"
syntax_text Falsity = codes "false"
syntax_text (Not f) = codes "!" ++ syntax_text f
syntax_text (Group f) = codes "(" ++ (syntax_text f ++ codes ")")
syntax_text (And f g) = syntax_text f ++ (codes " & " ++ syntax_text g)
syntax_text (Or f g) = syntax_text f ++ (codes " | " ++ syntax_text g)
syntax_text (Implies f g) = syntax_text f ++ (codes " -> " ++ syntax_text g)
syntax_text (Iff f g) = syntax_text f ++ (codes " <-> " ++ syntax_text g)

-- the text of a condition: none where there is none
abbrev pub given_text : Option FormulaSyntax → List ℕ
given_text None = []
given_text (Some f) = codes " given " ++ syntax_text f

-- the text of a probability
abbrev pub prob_text : Prob → List ℕ
prob_text p = codes "P(" ++ (syntax_text p.formula ++ (given_text p.given ++ codes ")"))

-- the text of a relation, by that of a number, with a space before it
abbrev pub relation_text_by : {N : Type 0} → (N → List ℕ) → RelationBy N → List ℕ
relation_text_by number (Exactly x) = codes " = " ++ number x
relation_text_by number (AtLeast x) = codes " >= " ++ number x
relation_text_by number (AtMost x) = codes " <= " ++ number x
relation_text_by number (Within x y) = codes " in [" ++ (number x ++ (codes ", " ++ (number y ++ codes "]")))

-- the text of a relation
abbrev pub relation_text : Relation → List ℕ
relation_text r = relation_text_by numeral_spelling r

-- a number, with its `-` at it
abbrev pub signed_text : Signed → List ℕ
signed_text x = if x.minus then codes "-" ++ numeral_spelling x.size else numeral_spelling x.size

-- a coefficient and a space, where one is spelled
abbrev pub coefficient_text : Option Numeral → List ℕ
coefficient_text None = []
coefficient_text (Some x) = numeral_spelling x ++ codes " "

-- a term behind its sign
abbrev pub term_text : Term → List ℕ
term_text t = coefficient_text t.coefficient ++ prob_text (alone t.formula)

-- terms behind others: a sign has a space on each side
abbrev pub further_text : List Term → List ℕ
further_text [] = []
further_text (t ∷ ts) = (if t.minus then codes " - " else codes " + ") ++ (term_text t ++ further_text ts)

-- terms: a `-` before the first has a space behind it
abbrev pub terms_text : List Term → List ℕ
terms_text [] = []
terms_text (t ∷ ts) = (if t.minus then codes "- " else []) ++ (term_text t ++ further_text ts)

-- one line each, ended by a line feed
abbrev pub item_text : ItemSyntax → List ℕ
item_text (Sentence p r) = prob_text p ++ (relation_text r ++ codes ";\n")
item_text (Linear ts r) = terms_text ts ++ (relation_text_by signed_text r ++ codes ";\n")
item_text (Query p) = codes "query " ++ (prob_text p ++ codes ";\n")

-- the texts of these items, one after the other
abbrev pub items_text : List ItemSyntax → List ℕ
items_text [] = []
items_text (e ∷ es) = item_text e ++ items_text es

-- the version of items: 2 where a sentence is linear, and else 1
abbrev pub version_for : List Item → Version
version_for [] = One
version_for (Stated (meaning.Linear s) ∷ items) = Two
version_for (Stated (meaning.Plain s) ∷ items) = version_for items
version_for (Asked q ∷ items) = version_for items

-- how the items are written
abbrev pub canonical_syntax : List Item → TextSyntax
canonical_syntax items = record { version = version_for items; items = canonical_items items }

-- the canonical text of these items
abbrev pub canonical_text : List Item → List ℕ
canonical_text items = (codes "psat " ++ (version_digits (version_for items) ++ codes ";\n"))
    ++ (items_text (canonical_items items) ++ codes "end;\n")

-- statements, and then questions
abbrev pub listed : List Statement → List Question → List Item
listed ss qs = map Stated ss ++ map Asked qs

-- the sentences in order, and then the queries in order: the lines of a problem
abbrev pub sentences_first : List Item → List Item
sentences_first items = listed (statements_of items) (questions_of items)

-- atoms are names
abbrev pub HasNames : formula.Formula meaning.Name → Type 0
HasNames formula.Truth = Unit {0}
HasNames formula.Falsity = Unit {0}
HasNames (formula.Atom a) = IsName a
HasNames (formula.Not f) = HasNames f
HasNames (formula.And f g) = HasNames f × HasNames g
HasNames (formula.Or f g) = HasNames f × HasNames g
HasNames (formula.Implies f g) = HasNames f × HasNames g
HasNames (formula.Iff f g) = HasNames f × HasNames g

-- atoms are names, and no more are ever open than may be in what is written
pub record IsWritable (f : formula.Formula meaning.Name) : Type 0 where
  pub names : HasNames f
  pub nests : Nests 0 (canonical_formula f)

-- a condition, where there is one, can be written
abbrev pub IsWritableGiven : Option (formula.Formula meaning.Name) → Type 0
IsWritableGiven None = Unit {0}
IsWritableGiven (Some f) = IsWritable f

-- in lowest terms, from 0 to this number, with a denominator within the limit
pub record IsReducedUpTo (n : ℕ) (r : Ratio) : Type 0 where
  pub lowest : IsGcd r.num r.den 1
  pub some : 0 < r.den
  pub small : r.den ≤ GREATEST_DENOMINATOR
  pub least : r.num ≤ n * r.den

-- the same, from 0 to 1
abbrev pub IsReduced : Ratio → Type 0
IsReduced r = IsReducedUpTo 1 r

-- the same, of a number of a linear sentence
abbrev pub IsReducedWeight : SignedRatio → Type 0
IsReducedWeight r = IsReducedUpTo GREATEST_NUMBER (size_of r)

-- an upper value stands with a least one only
abbrev pub IsUpper : Side → Option Ratio → Type 0
IsUpper s None = Unit {0}
IsUpper side.AtLeast (Some q) = IsReduced q
IsUpper side.AtMost (Some q) = ⊥
IsUpper side.Exactly (Some q) = ⊥

-- an upper value of a sum stands with a least one only
abbrev pub IsSumUpper : Side → Option SignedRatio → Type 0
IsSumUpper s None = Unit {0}
IsSumUpper side.AtLeast (Some q) = IsReducedWeight q
IsSumUpper side.AtMost (Some q) = ⊥
IsSumUpper side.Exactly (Some q) = ⊥

-- each summand can be written
abbrev pub AreWritable : List Summand → Type 0
AreWritable [] = Unit {0}
AreWritable (s ∷ ss) = (IsReducedWeight s.coefficient × IsWritable s.formula) × AreWritable ss

-- there are summands, and no more than may be, each can be written, and the values are reduced and within the limits
pub record IsLawfulSum (s : LinearStatement) : Type 0 where
  pub some : 1 ≤ length s.terms
  pub few : length s.terms ≤ MOST_TERMS
  pub terms : AreWritable s.terms
  pub value : IsReducedWeight s.value
  pub upper : IsSumUpper s.side s.upper

-- names are names, values are reduced and within the limits, and what is written doesn't nest too deep
abbrev pub IsLawfulItem : Item → Type 0
IsLawfulItem (Stated (meaning.Plain s)) =
    IsWritable s.formula × IsWritableGiven s.given × IsReduced s.value × IsUpper s.side s.upper
IsLawfulItem (Stated (meaning.Linear s)) = IsLawfulSum s
IsLawfulItem (Asked q) = IsWritable q.formula × IsWritableGiven q.given

-- each item is lawful
abbrev pub AreLawful : List Item → Type 0
AreLawful [] = Unit {0}
AreLawful (i ∷ is) = IsLawfulItem i × AreLawful is
