-- Which tokens are expected after others, and why a token is refused.
use Rattle.std.specs.Prelude.{◌≡◌, ℕ, suc, ◌*◌, ◌^◌, Bool, true, false, not, ◌&&◌, ◌||◌, ◌==◌, nat_lt, if◌then◌else◌}
use Rattle.std.specs.Prelude.{bytes_eq, List, [], ◌∷◌, ◌++◌, length, Option, Some, None, is_some, codes}
use Rattle.std.specs.List.{list_any}
use Rattle.ps_text.specs.declared.limits.TheConstants.{LONGEST_WORD, MOST_OPEN, GREATEST_DENOMINATOR}
use Rattle.ps_text.specs.declared.limits.TheConstants.{MOST_DECIMALS, GREATEST_NUMBER, MOST_TERMS}
use Rattle.ps_text.specs.Tokens.{Token, Word, Number, Sign, Numeral, Whole, Quotient, Decimal}
use Rattle.ps_text.specs.Tokens.{Open, Close, OpenBracket, CloseBracket, Comma, Semicolon, Bang, Ampersand}
use Rattle.ps_text.specs.Tokens.{Bar, Arrow, DoubleArrow, Equals, GreaterEquals}
use Rattle.ps_text.specs.Tokens.{LessEquals, Plus, Minus, is_the_word, is_the_sign}
use Rattle.ps_text.specs.declared.version.Version.{Version}
use Rattle.ps_text.specs.declared.version.Version.TheVariants.{One, Two}
use Rattle.ps_text.specs.declared.part.Part.{Part}
use Rattle.ps_text.specs.declared.part.Part.TheVariants as part
use Rattle.ps_text.specs.declared.part.Opening.{Opening}
use Rattle.ps_text.specs.declared.part.Opening.TheVariants as opening
use Rattle.ps_text.specs.Grammar.{is_reserved, value, has_linear}
use Rattle.ps_text.specs.declared.kind.What.TheVariants as what
use Rattle.ps_text.specs.declared.kind.What.{What}
use Rattle.ps_text.specs.declared.kind.ReadKind.{ReadKind}
use Rattle.ps_text.specs.declared.kind.ReadKind.TheVariants.{BadByte, NameTooLong, Expected, VersionUnknown}
use Rattle.ps_text.specs.declared.kind.ReadKind.TheVariants.{ZeroDenominator, DenominatorTooLarge, TooManyDecimals}
use Rattle.ps_text.specs.declared.kind.ReadKind.TheVariants.{NumberOutOfRange, TooDeep, TooManyTerms}

-- the part that is next; in a probability, whether it is a query's, whether `given` stood, and what is open, the last first;
-- the version; in a linear sentence, how many terms stand before the last one; and whether a `-` stands before the number
pub record State : Type 0 where
  pub part : Part
  pub query : Bool
  pub given : Bool
  pub opened : List Opening
  pub version : Version
  pub linear : Option ℕ
  pub minus : Bool

-- in a text of this version, outside of a probability and of a linear sentence
abbrev pub in_version : Version → Part → State
in_version v p = record { part = p; query = false; given = false; opened = []; version = v; linear = None; minus = false }

-- the same before the version is known, when only the tokens of version 1 are, and behind the text, where none is expected
abbrev pub outside : Part → State
outside p = in_version One p

-- before the first token
abbrev pub at_start : State
at_start = outside part.Psat

-- whether a token is a number
abbrev pub is_number : Token → Bool
is_number (Number n) = true
is_number t = false

-- a name, `true` or `false`
abbrev pub is_operand_word : Token → Bool
is_operand_word (Word w) = not (is_reserved w) || bytes_eq w (codes "true") || bytes_eq w (codes "false")
is_operand_word t = false

-- what an operand may begin with
abbrev pub begins_operand : Token → Bool
begins_operand t = is_operand_word t || is_the_sign Bang t || is_the_sign Open t

-- `+` or `-`
abbrev pub is_term_sign : Token → Bool
is_term_sign t = is_the_sign Plus t || is_the_sign Minus t

-- a number or a `-`
abbrev pub begins_signed : Token → Bool
begins_signed t = is_number t || is_the_sign Minus t

-- `P`, `query` or `end`, or what a linear sentence may begin with
abbrev pub begins_item : Version → Token → Bool
begins_item v t = is_the_word (codes "P") t || is_the_word (codes "query") t || is_the_word (codes "end") t
    || (has_linear v && begins_signed t)

-- `=`, `>=`, `<=` or `in`
abbrev pub is_relation : Token → Bool
is_relation t = is_the_sign Equals t || is_the_sign GreaterEquals t || is_the_sign LessEquals t || is_the_word (codes "in") t

-- `&`, `|`, `->` or `<->`
abbrev pub is_connective : Token → Bool
is_connective t = is_the_sign Ampersand t || is_the_sign Bar t || is_the_sign Arrow t || is_the_sign DoubleArrow t

-- whether an opening is a `(` of a formula
abbrev pub is_group : Opening → Bool
is_group opening.Group = true
is_group o = false

-- a condition may follow: no `(` of the formula is open, no `given` stood in this probability, and it is no term of a
-- linear sentence
abbrev pub may_be_given : State → Bool
may_be_given d = not (list_any is_group d.opened) && (not d.given && not (is_some d.linear))

-- what may stand behind an operand: a connective, a `)`, or `given` where it may stand
abbrev pub follows_operand : State → Token → Bool
follows_operand d t = is_connective t || is_the_sign Close t || (may_be_given d && is_the_word (codes "given") t)

-- the sign of a further term may follow: the version has such signs, and no `given` stood
abbrev pub may_be_term : State → Bool
may_be_term d = has_linear d.version && not d.given

-- a `-` may stand before the number: the sentence is linear, and none stands there
abbrev pub may_be_minus : State → Bool
may_be_minus d = is_some d.linear && not d.minus

-- the version is the number that is spelled `1` or `2`
abbrev pub version_fault : Token → Option ReadKind
version_fault (Number (Whole ds)) = if bytes_eq ds (codes "1") || bytes_eq ds (codes "2") then None else Some VersionUnknown
version_fault t = Some VersionUnknown

-- the version that a token spells
abbrev pub version_of : Token → Version
version_of (Number (Whole ds)) = if bytes_eq ds (codes "2") then Two else One
version_of t = One

-- a denominator isn't 0, denominator and decimals are within their limits, and the value is at most this number: the first
-- that fails
abbrev pub value_fault : ℕ → Numeral → Option ReadKind
value_fault n (Whole ds) = if nat_lt n (value ds) then Some NumberOutOfRange else None
value_fault n (Quotient ds es) = if value es == 0 then Some ZeroDenominator
    else (if nat_lt GREATEST_DENOMINATOR (value es) then Some DenominatorTooLarge
    else (if nat_lt (n * value es) (value ds) then Some NumberOutOfRange else None))
value_fault n (Decimal ds es) = if nat_lt MOST_DECIMALS (length es) then Some TooManyDecimals
    else (if nat_lt (n * 10 ^ length es) (value (ds ++ es)) then Some NumberOutOfRange else None)

-- the fault of a number as a value of at most this number, if it has one; another token has none
abbrev pub number_fault : ℕ → Token → Option ReadKind
number_fault n (Number x) = value_fault n x
number_fault n t = None

-- the greatest value of a number in a sentence, by whether it is a linear one
abbrev pub greatest_value : Option ℕ → ℕ
greatest_value None = 1
greatest_value (Some n) = GREATEST_NUMBER

-- how many terms stand so far: the probability of a plain sentence is one
abbrev pub terms_so_far : Option ℕ → ℕ
terms_so_far None = 1
terms_so_far (Some n) = suc n

-- a sign that would begin one term too many is refused
abbrev pub terms_fault : State → Token → Option ReadKind
terms_fault d t = if is_term_sign t && not (nat_lt (terms_so_far d.linear) MOST_TERMS) then Some TooManyTerms else None

-- the token opens a nesting of a formula; the `(` behind `P` isn't counted
abbrev pub opens : Part → Token → Bool
opens part.Operand t = is_the_sign Bang t || is_the_sign Open t
opens part.Operator t = is_the_sign Arrow t
opens p t = false

-- a token that would open one nesting too many is refused
abbrev pub depth_fault : State → Token → Option ReadKind
depth_fault d t = if opens d.part t && not (nat_lt (length d.opened) MOST_OPEN) then Some TooDeep else None

-- what stays open behind an operand: no `!` that was opened last
abbrev pub without_nots : List Opening → List Opening
without_nots (opening.Not ∷ os) = without_nots os
without_nots os = os

-- what stays open at a `<->` or a `)`: no `->` that was opened last
abbrev pub without_arrows : List Opening → List Opening
without_arrows (opening.Arrow ∷ os) = without_arrows os
without_arrows os = os

-- within a formula
abbrev pub within : Part → State → List Opening → State
within p d os = record {
  part = p;
  query = d.query;
  given = d.given;
  opened = os;
  version = d.version;
  linear = d.linear;
  minus = d.minus;
}

-- behind the left side of a sentence, which keeps whether `given` stood
abbrev pub on_left : State → State
on_left d = record {
  part = part.Relation;
  query = false;
  given = d.given;
  opened = [];
  version = d.version;
  linear = d.linear;
  minus = d.minus;
}

-- behind the `)` of a probability
abbrev pub prob_ended : State → State
prob_ended d = if d.query then in_version d.version part.ItemEnd else on_left d

-- behind a `)`, where no `->` is open any more: it is the probability's, or ends the `(` that was opened last
abbrev pub closed : State → List Opening → State
closed d [] = prob_ended d
closed d (o ∷ os) = within part.Operator d (without_nots os)

-- in a linear sentence, behind so many terms
abbrev pub in_term : Version → ℕ → Part → State
in_term v n p = record { part = p; query = false; given = false; opened = []; version = v; linear = Some n; minus = false }

-- behind the first token of an item, or `end`
abbrev pub after_item_start : Version → Token → State
after_item_start v t = if is_the_word (codes "P") t then in_version v part.Paren
    else (if is_the_word (codes "query") t then in_version v part.QueryProb
    else (if is_the_word (codes "end") t then in_version v part.TextEnd
    else (if is_number t then in_term v 0 part.TermProb else in_term v 0 part.Term)))

-- in a query's probability
abbrev pub in_query : Version → Part → State
in_query v p = record { part = p; query = true; given = false; opened = []; version = v; linear = None; minus = false }

-- in the relation of the same sentence, behind a `-` or not
abbrev pub in_relation : State → Bool → Part → State
in_relation d m p = record {
  part = p;
  query = false;
  given = false;
  opened = [];
  version = d.version;
  linear = d.linear;
  minus = m;
}

-- behind a sign before a term, behind `in` or the symbol of a relation
abbrev pub after_left : State → Token → State
after_left d t = if is_term_sign t then in_term d.version (terms_so_far d.linear) part.Term
    else (if is_the_word (codes "in") t then in_relation d false part.Bracket else in_relation d false part.Number)

-- behind a `-`, or the number that it may stand before
abbrev pub after_value : State → Token → State → State
after_value d t behind = if is_the_sign Minus t then in_relation d true d.part else behind

-- `!` and `(` are open from there on; a word is an operand
abbrev pub after_operand : State → Token → State
after_operand d (Sign Bang) = within part.Operand d (opening.Not ∷ d.opened)
after_operand d (Sign Open) = within part.Operand d (opening.Group ∷ d.opened)
after_operand d t = within part.Operator d (without_nots d.opened)

-- `&` and `|` change nothing that is open; `given` begins a condition anew, with nothing open
abbrev pub after_operator : State → Token → State
after_operator d (Sign Close) = closed d (without_arrows d.opened)
after_operator d (Sign Arrow) = within part.Operand d (opening.Arrow ∷ d.opened)
after_operator d (Sign DoubleArrow) = within part.Operand d (without_arrows d.opened)
after_operator d (Sign s) = within part.Operand d d.opened
after_operator d t = record {
  part = part.Operand;
  query = d.query;
  given = true;
  opened = [];
  version = d.version;
  linear = d.linear;
  minus = d.minus;
}

-- a part's row: the name of what is expected there, the tokens that are, why one of them is refused, and the state
-- behind one that isn't
pub record Row : Type 0 where
  pub what : State → What
  pub expects : State → Token → Bool
  pub fault : State → Token → Option ReadKind
  pub next : State → Token → State

-- the table of parts; behind the text no token is expected, and a refusal of the form (`IsRefused`) doesn't come there
abbrev pub row : Part → Row
row part.Psat = record {
  what = λ d. what.Psat;
  expects = λ d t. is_the_word (codes "psat") t;
  fault = λ d t. None;
  next = λ d t. outside part.Version;
}
row part.Version = record {
  what = λ d. what.Version;
  expects = λ d t. is_number t;
  fault = λ d t. version_fault t;
  next = λ d t. in_version (version_of t) part.HeadEnd;
}
row part.HeadEnd = record {
  what = λ d. what.Semicolon;
  expects = λ d t. is_the_sign Semicolon t;
  fault = λ d t. None;
  next = λ d t. in_version d.version part.Item;
}
row part.Item = record {
  what = λ d. if has_linear d.version then what.Item2 else what.Item;
  expects = λ d t. begins_item d.version t;
  fault = λ d t. number_fault GREATEST_NUMBER t;
  next = λ d t. after_item_start d.version t;
}
row part.QueryProb = record {
  what = λ d. what.Prob;
  expects = λ d t. is_the_word (codes "P") t;
  fault = λ d t. None;
  next = λ d t. in_query d.version part.Paren;
}
row part.Term = record {
  what = λ d. what.Term;
  expects = λ d t. is_number t || is_the_word (codes "P") t;
  fault = λ d t. number_fault GREATEST_NUMBER t;
  next = λ d t. within (if is_number t then part.TermProb else part.Paren) d [];
}
row part.TermProb = record {
  what = λ d. what.Prob;
  expects = λ d t. is_the_word (codes "P") t;
  fault = λ d t. None;
  next = λ d t. within part.Paren d [];
}
row part.Paren = record {
  what = λ d. what.Paren;
  expects = λ d t. is_the_sign Open t;
  fault = λ d t. None;
  next = λ d t. within part.Operand d [];
}
row part.Operand = record {
  what = λ d. what.Formula;
  expects = λ d t. begins_operand t;
  fault = depth_fault;
  next = after_operand;
}
row part.Operator = record { what = λ d. what.Operator; expects = follows_operand; fault = depth_fault; next = after_operator }
row part.Relation = record {
  what = λ d. what.Relation;
  expects = λ d t. is_relation t || (may_be_term d && is_term_sign t);
  fault = terms_fault;
  next = after_left;
}
row part.Number = record {
  what = λ d. what.Number;
  expects = λ d t. is_number t || (may_be_minus d && is_the_sign Minus t);
  fault = λ d t. number_fault (greatest_value d.linear) t;
  next = λ d t. after_value d t (in_version d.version part.ItemEnd);
}
row part.Bracket = record {
  what = λ d. what.Bracket;
  expects = λ d t. is_the_sign OpenBracket t;
  fault = λ d t. None;
  next = λ d t. in_relation d false part.First;
}
row part.First = record {
  what = λ d. what.Number;
  expects = λ d t. is_number t || (may_be_minus d && is_the_sign Minus t);
  fault = λ d t. number_fault (greatest_value d.linear) t;
  next = λ d t. after_value d t (in_relation d false part.Comma);
}
row part.Comma = record {
  what = λ d. what.Comma;
  expects = λ d t. is_the_sign Comma t;
  fault = λ d t. None;
  next = λ d t. in_relation d false part.Second;
}
row part.Second = record {
  what = λ d. what.Number;
  expects = λ d t. is_number t || (may_be_minus d && is_the_sign Minus t);
  fault = λ d t. number_fault (greatest_value d.linear) t;
  next = λ d t. after_value d t (in_relation d false part.BracketEnd);
}
row part.BracketEnd = record {
  what = λ d. what.BracketEnd;
  expects = λ d t. is_the_sign CloseBracket t;
  fault = λ d t. None;
  next = λ d t. in_version d.version part.ItemEnd;
}
row part.ItemEnd = record {
  what = λ d. what.Semicolon;
  expects = λ d t. is_the_sign Semicolon t;
  fault = λ d t. None;
  next = λ d t. in_version d.version part.Item;
}
row part.TextEnd = record {
  what = λ d. what.Semicolon;
  expects = λ d t. is_the_sign Semicolon t;
  fault = λ d t. None;
  next = λ d t. outside part.Done;
}
row part.Done = record { what = λ d. what.Psat; expects = λ d t. false; fault = λ d t. None; next = λ d t. outside part.Done }

-- whether the token is one that is expected
abbrev pub is_expected : State → Token → Bool
is_expected d t = (row d.part).expects d t

-- the name of what is expected
abbrev pub what_at : State → What
what_at d = (row d.part).what d

-- why a token that is expected is refused
abbrev pub fault_at : Part → State → Token → Option ReadKind
fault_at p d t = (row p).fault d t

-- too long a word, wherever it stands
abbrev pub is_too_long : Token → Bool
is_too_long (Word w) = nat_lt LONGEST_WORD (length w)
is_too_long t = false

-- `+` and `-` are no tokens of version 1
abbrev pub is_foreign : Version → Token → Bool
is_foreign v (Sign Plus) = not (has_linear v)
is_foreign v (Sign Minus) = not (has_linear v)
is_foreign v t = false

-- why the token is refused, by the first reason, if it is
unfoldable pub refusal : State → Token → Option ReadKind
refusal d t = if is_foreign d.version t then Some BadByte
    else (if is_too_long t then Some NameTooLong
    else (if not (is_expected d t) then Some (Expected (what_at d)) else fault_at d.part d t))

-- the state behind a token that isn't refused
unfoldable pub after : State → Token → State
after d t = (row d.part).next d t

-- none of these tokens is refused, and behind them this is expected
abbrev pub Passes : State → List Token → State → Type 0
Passes d [] e = d ≡ e
Passes d (t ∷ ts) e = (refusal d t ≡ None) × Passes (after d t) ts e

-- tokens none of which is refused, up to the `;` behind `end`
abbrev pub AreExpected : List Token → Type 0
AreExpected ts = Passes at_start ts (outside part.Done)
