-- A derivation of the tokens so far, and what one more token makes of it.
use Rattle.std.specs.Prelude.{◌≡◌, ℕ, ◌≤◌, ◌<◌, Bool, true, false, if◌then◌else◌, bytes_eq, codes}
use Rattle.std.specs.Prelude.{List, [], ◌∷◌, ◌++◌, length, Option, Some, None, is_some}
use Rattle.ps_text.specs.declared.limits.TheConstants.{MOST_TERMS}
use Rattle.ps_text.specs.declared.version.Version.{Version}
use Rattle.ps_text.specs.Tokens.{Token, Word, Number, Sign, Numeral, Whole, Symbol}
use Rattle.ps_text.specs.Tokens.{Open, Close, OpenBracket, Comma, Bang, Ampersand, Bar, Plus, Minus}
use Rattle.ps_text.specs.Tokens.{Arrow, DoubleArrow, Equals, GreaterEquals, LessEquals, is_the_word}
use Rattle.ps_text.specs.Grammar.{FormulaSyntax, Name, Truth, Falsity, Group, spelled, level}
use Rattle.ps_text.specs.Grammar.{Prob, Relation, SignedRelation, Exactly, AtLeast, AtMost, Within, ItemSyntax}
use Rattle.ps_text.specs.Grammar.{Sentence, Linear, Query, prob_tokens, relation_tokens, tokens_up_to, text_tokens, IsProbability}
use Rattle.ps_text.specs.Grammar.{IsGiven, IsProb, IsWellFormedItem, Signed, Term, TextSyntax, IsWellFormedText, IsWeight}
use Rattle.ps_text.specs.Grammar.{minus_tokens, signed_tokens, coefficient_tokens, term_tokens, term_sign, terms_tokens}
use Rattle.ps_text.specs.Grammar.{signed_relation_tokens, version_digits, has_linear, IsCoefficient, IsTerm, AreTerms, IsLinearBy}
use Rattle.ps_text.specs.declared.part.Part.{Part}
use Rattle.ps_text.specs.declared.part.Part.TheVariants as part
use Rattle.ps_text.specs.declared.part.Opening.{Opening}
use Rattle.ps_text.specs.ExpectedTokens.{State, outside, in_version, in_term, is_number, version_of, after, refusal}
use Rattle.ps_text.specs.BegunFormulas.{Frame, BegunNot, BegunGroup, BegunAnd, BegunOr, BegunImplies, BegunIff}
use Rattle.ps_text.specs.BegunFormulas.{frame_tokens, opened_of, AreFrames, LastIsNoNot, IsNextOperand, joins}

-- what of its item stands before a probability: nothing, `query`, or the terms before it, the sign and the coefficient
pub data Lead : Type 0 where
  OfSentence OfQuery : Lead
  OfTerm : (before : List Term) (minus : Bool) (coefficient : Option Numeral) → Lead

-- the left side of a sentence: a probability, or terms, of which the last stands apart
pub data Left : Type 0 where
  OneProb : (prob : Prob) → Left
  Terms : (before : List Term) (last : Term) → Left

-- the part that is expected next, with the text that is derived and what of the next item is: what stands before its
-- probability, its formula before `given`, what is begun of a formula, the last operand, the left side, the sign of its
-- relation, the values so far, and whether a `-` stands before the next one
pub data Parse : Type 0 where
  InPsat InVersion : Parse
  InHeadEnd : (version : Version) → Parse
  InItem InQueryProb InTextEnd InDone : (done : TextSyntax) → Parse
  InTerm : (done : TextSyntax) (before : List Term) (minus : Bool) → Parse
  InTermProb : (done : TextSyntax) (before : List Term) (minus : Bool) (coefficient : Numeral) → Parse
  InParen : (done : TextSyntax) (lead : Lead) → Parse
  InOperand : (done : TextSyntax) (lead : Lead) (formula : Option FormulaSyntax) (frames : List Frame) → Parse
  InOperator : (done : TextSyntax) (lead : Lead) (formula : Option FormulaSyntax) (frames : List Frame)
      (operand : FormulaSyntax) → Parse
  InRelation InBracket : (done : TextSyntax) (left : Left) → Parse
  InFirst : (done : TextSyntax) (left : Left) (minus : Bool) → Parse
  InNumber : (done : TextSyntax) (left : Left) (sign : Symbol) (minus : Bool) → Parse
  InComma : (done : TextSyntax) (left : Left) (least : Signed) → Parse
  InSecond : (done : TextSyntax) (left : Left) (least : Signed) (minus : Bool) → Parse
  InBracketEnd : (done : TextSyntax) (left : Left) (least most : Signed) → Parse
  InItemEnd : (done : TextSyntax) (item : ItemSyntax) → Parse

-- the probability whose last formula this is: its condition, where a formula before `given` is there
abbrev pub prob_of : Option FormulaSyntax → FormulaSyntax → Prob
prob_of None f = record { formula = f; given = None }
prob_of (Some f) g = record { formula = f; given = Some g }

-- whether a probability is a query's
abbrev pub is_query : Lead → Bool
is_query OfQuery = true
is_query q = false

-- how many terms stand before a term's probability
abbrev pub lead_linear : Lead → Option ℕ
lead_linear (OfTerm ts m k) = Some (length ts)
lead_linear q = None

-- how many terms stand before the last one of a left side
abbrev pub left_linear : Left → Option ℕ
left_linear (OneProb p) = None
left_linear (Terms ts t) = Some (length ts)

-- whether `given` stood in a left side
abbrev pub left_given : Left → Bool
left_given (OneProb p) = is_some p.given
left_given (Terms ts t) = false

-- the state in a probability
abbrev pub in_prob : Part → TextSyntax → Lead → Bool → List Opening → State
in_prob p es q g os = record {
  part = p;
  query = is_query q;
  given = g;
  opened = os;
  version = es.version;
  linear = lead_linear q;
  minus = false;
}

-- the state behind a left side
abbrev pub behind_left : Part → TextSyntax → Left → Bool → Bool → State
behind_left p es l g m = record {
  part = p;
  query = false;
  given = g;
  opened = [];
  version = es.version;
  linear = left_linear l;
  minus = m;
}

-- the state in which the next token is expected
abbrev pub state_of : Parse → State
state_of InPsat = outside part.Psat
state_of InVersion = outside part.Version
state_of (InHeadEnd v) = in_version v part.HeadEnd
state_of (InItem es) = in_version es.version part.Item
state_of (InQueryProb es) = in_version es.version part.QueryProb
state_of (InTextEnd es) = in_version es.version part.TextEnd
state_of (InDone es) = outside part.Done
state_of (InTerm es ts m) = in_term es.version (length ts) part.Term
state_of (InTermProb es ts m x) = in_term es.version (length ts) part.TermProb
state_of (InParen es q) = in_prob part.Paren es q false []
state_of (InOperand es q c fs) = in_prob part.Operand es q (is_some c) (opened_of fs)
state_of (InOperator es q c fs f) = in_prob part.Operator es q (is_some c) (opened_of fs)
state_of (InRelation es l) = behind_left part.Relation es l (left_given l) false
state_of (InBracket es l) = behind_left part.Bracket es l false false
state_of (InFirst es l m) = behind_left part.First es l false m
state_of (InNumber es l s m) = behind_left part.Number es l false m
state_of (InComma es l x) = behind_left part.Comma es l false false
state_of (InSecond es l x m) = behind_left part.Second es l false m
state_of (InBracketEnd es l x y) = behind_left part.BracketEnd es l false false
state_of (InItemEnd es e) = in_version es.version part.ItemEnd

-- the sign before a term behind these others
abbrev pub sign_behind : List Term → Bool → List Token
sign_behind [] m = minus_tokens m
sign_behind (t ∷ ts) m = Sign (term_sign m) ∷ []

-- the tokens of terms, and the sign of one more
abbrev pub begun_terms : List Term → Bool → List Token
begun_terms ts m = terms_tokens ts ++ sign_behind ts m

-- the tokens of an item before the `(` of a probability
abbrev pub prob_lead : Lead → List Token
prob_lead OfQuery = Word (codes "query") ∷ Word (codes "P") ∷ []
prob_lead OfSentence = Word (codes "P") ∷ []
prob_lead (OfTerm ts m k) = begun_terms ts m ++ (coefficient_tokens k ++ Word (codes "P") ∷ [])

-- the tokens of a formula and of the `given` behind it
abbrev pub given_lead : Option FormulaSyntax → List Token
given_lead None = []
given_lead (Some f) = spelled f ++ Word (codes "given") ∷ []

-- the tokens before a formula
abbrev pub formula_lead : TextSyntax → Lead → Option FormulaSyntax → List Token
formula_lead es q c = tokens_up_to es ++ (prob_lead q ++ (Sign Open ∷ given_lead c))

-- the tokens of a left side
abbrev pub left_tokens : Left → List Token
left_tokens (OneProb p) = prob_tokens p
left_tokens (Terms ts t) = begun_terms ts t.minus ++ term_tokens t

-- the tokens before a relation
abbrev pub sentence_lead : TextSyntax → Left → List Token
sentence_lead es l = tokens_up_to es ++ left_tokens l

-- the tokens of an item without its `;`
abbrev pub item_body : ItemSyntax → List Token
item_body (Sentence p r) = prob_tokens p ++ relation_tokens r
item_body (Linear ts r) = terms_tokens ts ++ signed_relation_tokens r
item_body (Query p) = Word (codes "query") ∷ prob_tokens p

-- the tokens so far
abbrev pub parsed_tokens : Parse → List Token
parsed_tokens InPsat = []
parsed_tokens InVersion = Word (codes "psat") ∷ []
parsed_tokens (InHeadEnd v) = Word (codes "psat") ∷ Number (Whole (version_digits v)) ∷ []
parsed_tokens (InItem es) = tokens_up_to es
parsed_tokens (InQueryProb es) = tokens_up_to es ++ Word (codes "query") ∷ []
parsed_tokens (InTextEnd es) = tokens_up_to es ++ Word (codes "end") ∷ []
parsed_tokens (InDone es) = text_tokens es
parsed_tokens (InTerm es ts m) = tokens_up_to es ++ begun_terms ts m
parsed_tokens (InTermProb es ts m x) = tokens_up_to es ++ (begun_terms ts m ++ Number x ∷ [])
parsed_tokens (InParen es q) = tokens_up_to es ++ prob_lead q
parsed_tokens (InOperand es q c fs) = formula_lead es q c ++ frame_tokens fs
parsed_tokens (InOperator es q c fs f) = formula_lead es q c ++ (frame_tokens fs ++ spelled f)
parsed_tokens (InRelation es l) = sentence_lead es l
parsed_tokens (InBracket es l) = sentence_lead es l ++ Word (codes "in") ∷ []
parsed_tokens (InFirst es l m) = sentence_lead es l ++ (Word (codes "in") ∷ Sign OpenBracket ∷ minus_tokens m)
parsed_tokens (InNumber es l s m) = sentence_lead es l ++ (Sign s ∷ minus_tokens m)
parsed_tokens (InComma es l x) = sentence_lead es l ++ (Word (codes "in") ∷ Sign OpenBracket ∷ signed_tokens x)
parsed_tokens (InSecond es l x m) = sentence_lead es l
    ++ (Word (codes "in") ∷ Sign OpenBracket ∷ (signed_tokens x ++ (Sign Comma ∷ minus_tokens m)))
parsed_tokens (InBracketEnd es l x y) = sentence_lead es l
    ++ (Word (codes "in") ∷ Sign OpenBracket ∷ (signed_tokens x ++ (Sign Comma ∷ signed_tokens y)))
parsed_tokens (InItemEnd es e) = tokens_up_to es ++ item_body e

-- how a sign bounds a left side
abbrev pub relation_of : Symbol → Signed → SignedRelation
relation_of Equals x = Exactly x
relation_of GreaterEquals x = AtLeast x
relation_of s x = AtMost x

-- `=`, `>=` or `<=`
abbrev pub IsRelationSign : Symbol → Type 0
IsRelationSign Equals = Unit {0}
IsRelationSign GreaterEquals = Unit {0}
IsRelationSign LessEquals = Unit {0}
IsRelationSign s = ⊥

-- the relation of a plain sentence, whose numbers have no sign
abbrev pub without_signs : SignedRelation → Relation
without_signs (Exactly x) = Exactly x.size
without_signs (AtLeast x) = AtLeast x.size
without_signs (AtMost x) = AtMost x.size
without_signs (Within x y) = Within x.size y.size

-- the sentence of a left side and a relation
abbrev pub sentence_of : Left → SignedRelation → ItemSyntax
sentence_of (OneProb p) r = Sentence p (without_signs r)
sentence_of (Terms ts t) r = Linear (ts ++ t ∷ []) r

-- terms of a linear sentence that one more may follow
pub record AreFirstTerms (es : TextSyntax) (ts : List Term) : Type 0 where
  pub version : has_linear es.version ≡ true
  pub terms : AreTerms ts
  pub few : length ts < MOST_TERMS

-- what stands before a probability is within the grammar's limits
abbrev pub IsLead : TextSyntax → Lead → Type 0
IsLead es OfSentence = Unit {0}
IsLead es OfQuery = Unit {0}
IsLead es (OfTerm ts m k) = AreFirstTerms es ts × IsLinearBy ts m k × IsCoefficient k

-- a formula before `given` stands in no term
abbrev pub IsGivenBehind : Lead → Option FormulaSyntax → Type 0
IsGivenBehind OfSentence c = IsGiven c
IsGivenBehind OfQuery c = IsGiven c
IsGivenBehind (OfTerm ts m k) c = c ≡ None

-- a left side within the grammar's levels and limits
abbrev pub IsLeft : TextSyntax → Left → Type 0
IsLeft es (OneProb p) = IsProb p
IsLeft es (Terms ts t) = AreFirstTerms es ts × IsLinearBy ts t.minus t.coefficient × IsTerm t

-- a `-` may stand before a number
abbrev pub IsMinusBehind : Left → Bool → Type 0
IsMinusBehind (OneProb p) m = m ≡ false
IsMinusBehind (Terms ts t) m = Unit {0}

-- a number that may bound the left side
abbrev pub IsValueBehind : Left → Signed → Type 0
IsValueBehind (OneProb p) x = (x.minus ≡ false) × IsProbability x.size
IsValueBehind (Terms ts t) x = IsWeight x.size

-- all that is derived is within the grammar's levels and limits
abbrev pub IsParse : Parse → Type 0
IsParse InPsat = Unit {0}
IsParse InVersion = Unit {0}
IsParse (InHeadEnd v) = Unit {0}
IsParse (InItem es) = IsWellFormedText es
IsParse (InQueryProb es) = IsWellFormedText es
IsParse (InTextEnd es) = IsWellFormedText es
IsParse (InDone es) = IsWellFormedText es
IsParse (InTerm es ts m) = IsWellFormedText es × IsLead es (OfTerm ts m None)
IsParse (InTermProb es ts m x) = IsWellFormedText es × IsLead es (OfTerm ts m (Some x))
IsParse (InParen es q) = IsWellFormedText es × IsLead es q
IsParse (InOperand es q c fs) = (IsWellFormedText es × IsLead es q) × IsGivenBehind q c × AreFrames fs
IsParse (InOperator es q c fs f) = (IsWellFormedText es × IsLead es q) × IsGivenBehind q c × IsNextOperand fs f
    × LastIsNoNot fs × (5 ≤ level f)
IsParse (InRelation es l) = IsWellFormedText es × IsLeft es l
IsParse (InBracket es l) = IsWellFormedText es × IsLeft es l
IsParse (InFirst es l m) = IsWellFormedText es × IsLeft es l × IsMinusBehind l m
IsParse (InNumber es l s m) = IsWellFormedText es × IsLeft es l × IsMinusBehind l m × IsRelationSign s
IsParse (InComma es l x) = IsWellFormedText es × IsLeft es l × IsValueBehind l x
IsParse (InSecond es l x m) = IsWellFormedText es × IsLeft es l × IsMinusBehind l m × IsValueBehind l x
IsParse (InBracketEnd es l x y) = IsWellFormedText es × IsLeft es l × IsValueBehind l x × IsValueBehind l y
IsParse (InItemEnd es e) = IsWellFormedText es × IsWellFormedItem es.version e

-- behind an operand, which is joined with each `!` before it
abbrev pub behind_operand : TextSyntax → Lead → Option FormulaSyntax → List Frame → FormulaSyntax → Parse
behind_operand es q c fs f = InOperator es q c (joins 5 fs f).0 (joins 5 fs f).1

-- the operand of a word
abbrev pub operand_of : List ℕ → FormulaSyntax
operand_of w = if bytes_eq w (codes "true") then Truth else (if bytes_eq w (codes "false") then Falsity else Name w)

-- behind the `)` of a probability
abbrev pub behind_prob : TextSyntax → Lead → Option FormulaSyntax → FormulaSyntax → Parse
behind_prob es OfQuery c f = InItemEnd es (Query (prob_of c f))
behind_prob es OfSentence c f = InRelation es (OneProb (prob_of c f))
behind_prob es (OfTerm ts m k) c f = InRelation es (Terms ts (record { minus = m; coefficient = k; formula = f }))

-- behind a `)`, where all is joined that is begun behind its `(`
abbrev pub behind_close : TextSyntax → Lead → Option FormulaSyntax → List Frame → FormulaSyntax → Parse
behind_close es q c (BegunGroup ∷ fs) f = behind_operand es q c fs (Group f)
behind_close es q c fs f = behind_prob es q c f

-- behind a token in the place of an operand
abbrev pub operand_parsed : TextSyntax → Lead → Option FormulaSyntax → List Frame → Token → Parse
operand_parsed es q c fs (Sign Bang) = InOperand es q c (BegunNot ∷ fs)
operand_parsed es q c fs (Sign s) = InOperand es q c (BegunGroup ∷ fs)
operand_parsed es q c fs (Word w) = behind_operand es q c fs (operand_of w)
operand_parsed es q c fs t = behind_operand es q c fs Truth

-- behind a token that follows an operand: a connective, a `)` or `given`
abbrev pub operator_parsed : TextSyntax → Lead → Option FormulaSyntax → List Frame → FormulaSyntax → Token → Parse
operator_parsed es q c fs f (Sign Close) = behind_close es q c (joins 1 fs f).0 (joins 1 fs f).1
operator_parsed es q c fs f (Sign Ampersand) = InOperand es q c (BegunAnd (joins 4 fs f).1 ∷ (joins 4 fs f).0)
operator_parsed es q c fs f (Sign Bar) = InOperand es q c (BegunOr (joins 3 fs f).1 ∷ (joins 3 fs f).0)
operator_parsed es q c fs f (Sign Arrow) = InOperand es q c (BegunImplies (joins 3 fs f).1 ∷ (joins 3 fs f).0)
operator_parsed es q c fs f (Sign DoubleArrow) = InOperand es q c (BegunIff (joins 1 fs f).1 ∷ (joins 1 fs f).0)
operator_parsed es q c fs f t = InOperand es q (Some (joins 1 fs f).1) []

-- the number that a token is
abbrev pub number_in : Token → Numeral
number_in (Number x) = x
number_in t = Whole []

-- behind the first token of an item, or `end`
abbrev pub item_parsed : TextSyntax → Token → Parse
item_parsed es t = if is_the_word (codes "P") t then InParen es OfSentence
    else (if is_the_word (codes "query") t then InQueryProb es
    else (if is_the_word (codes "end") t then InTextEnd es
    else (if is_number t then InTermProb es [] false (number_in t) else InTerm es [] true)))

-- behind a coefficient, or the `P` of a term
abbrev pub term_parsed : TextSyntax → List Term → Bool → Token → Parse
term_parsed es ts m (Number x) = InTermProb es ts m x
term_parsed es ts m t = InParen es (OfTerm ts m None)

-- the terms of a left side
abbrev pub terms_in : Left → List Term
terms_in (OneProb p) = record { minus = false; coefficient = None; formula = p.formula } ∷ []
terms_in (Terms ts t) = ts ++ t ∷ []

-- behind a sign, or `in`
abbrev pub relation_parsed : TextSyntax → Left → Token → Parse
relation_parsed es l (Sign Plus) = InTerm es (terms_in l) false
relation_parsed es l (Sign Minus) = InTerm es (terms_in l) true
relation_parsed es l (Sign s) = InNumber es l s false
relation_parsed es l t = InBracket es l

-- behind a `-`, or the number that it may stand before
abbrev pub value_parsed : Parse → (Numeral → Parse) → Token → Parse
value_parsed negated behind (Number x) = behind x
value_parsed negated behind t = negated

-- a number, behind a `-` or not
abbrev pub signed : Bool → Numeral → Signed
signed m x = record { minus = m; size = x }

-- with one more token
abbrev pub parsed : Parse → Token → Parse
parsed InPsat t = InVersion
parsed InVersion t = InHeadEnd (version_of t)
parsed (InHeadEnd v) t = InItem (record { version = v; items = [] })
parsed (InItem es) t = item_parsed es t
parsed (InQueryProb es) t = InParen es OfQuery
parsed (InTextEnd es) t = InDone es
parsed (InDone es) t = InDone es
parsed (InTerm es ts m) t = term_parsed es ts m t
parsed (InTermProb es ts m x) t = InParen es (OfTerm ts m (Some x))
parsed (InParen es q) t = InOperand es q None []
parsed (InOperand es q c fs) t = operand_parsed es q c fs t
parsed (InOperator es q c fs f) t = operator_parsed es q c fs f t
parsed (InRelation es l) t = relation_parsed es l t
parsed (InBracket es l) t = InFirst es l false
parsed (InFirst es l m) t = value_parsed (InFirst es l true) (λ x. InComma es l (signed m x)) t
parsed (InNumber es l s m) t =
    value_parsed (InNumber es l s true) (λ x. InItemEnd es (sentence_of l (relation_of s (signed m x)))) t
parsed (InComma es l x) t = InSecond es l x false
parsed (InSecond es l x m) t = value_parsed (InSecond es l x true) (λ y. InBracketEnd es l x (signed m y)) t
parsed (InBracketEnd es l x y) t = InItemEnd es (sentence_of l (Within x y))
parsed (InItemEnd es e) t = InItem (record { version = es.version; items = es.items ++ e ∷ [] })

-- one token more: it is behind the tokens so far, the whole is within the grammar's levels and limits, and what is expected
-- is what the table of expected tokens says
pub record IsExtendedBy (p : Parse) (t : Token) : Type 0 where
  pub state : state_of (parsed p t) ≡ after (state_of p) t
  pub tokens : parsed_tokens (parsed p t) ≡ parsed_tokens p ++ t ∷ []
  pub within : IsParse (parsed p t)

-- a token that isn't refused is one more
abbrev pub TakesToken : Parse → Token → Type 0
TakesToken p t = IsParse p → refusal (state_of p) t ≡ None → IsExtendedBy p t
