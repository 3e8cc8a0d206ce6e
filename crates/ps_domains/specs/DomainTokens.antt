-- Which tokens are expected after others in a text over listed constants, and why a token is refused.
use Rattle.std.specs.Prelude.{◌≡◌, ◌+◌, ℕ, min, Bool, true, false, not, ◌||◌, nat_lt, if◌then◌else◌}
use Rattle.std.specs.Prelude.{List, [], ◌∷◌, ◌++◌, length, Option, Some, None, is_some, unwrap_or, codes}
use Rattle.std.specs.List.{list_any}
use Rattle.ps_meaning.specs.Statements.{Name}
use Rattle.ps_text.specs.Tokens.{Token, Word, Sign, is_the_word, is_the_sign}
use Rattle.ps_text.specs.declared.symbol.Symbol.TheVariants.{Open, Close, Comma, Semicolon}
use Rattle.ps_text.specs.declared.version.Version.TheVariants.{Two}
use Rattle.ps_text.specs.declared.part.Part.{Part}
use Rattle.ps_text.specs.declared.part.Part.TheVariants as part
use Rattle.ps_text.specs.declared.kind.What.{What}
use Rattle.ps_text.specs.declared.kind.What.TheVariants as what
use Rattle.ps_text.specs.declared.kind.ReadKind.{ReadKind}
use Rattle.ps_text.specs.declared.kind.ReadKind.TheVariants as read
use Rattle.ps_text.specs.ExpectedTokens as before
use Rattle.ps_text.specs.ExpectedTokens.{in_version, is_number, is_too_long}
use Rattle.ps_problem.specs.Numbering.{same_name}
use Rattle.ps_first_order.specs.declared.limits.TheConstants.{MOST_CONSTANTS, MOST_PREDICATES, MOST_ARITY}
use Rattle.ps_domains.specs.declared.kind.GroundKind.{GroundKind}
use Rattle.ps_domains.specs.declared.kind.GroundKind.TheVariants as kind
use Rattle.ps_domains.specs.declared.kind.DomainWhat.TheVariants as domain_what
use Rattle.ps_domains.specs.declared.domain_part.DomainPart.{DomainPart}
use Rattle.ps_domains.specs.declared.domain_part.DomainPart.TheVariants as domain
use Rattle.ps_domains.specs.declared.declared.Predicate.{Predicate}
use Rattle.ps_domains.specs.declared.declared.Scope.{Scope}
use Rattle.ps_domains.specs.declared.declared.Scope.TheVariants as scope
use Rattle.ps_domains.specs.Names.{has_name, takes_more, binds}
use Rattle.ps_domains.specs.DomainWords.{is_quantifier, is_declaring, is_name, has_underscore, is_three, arity_of}

-- what version 2 has next, where a predicate with its terms is one operand and a quantifier with its variable is nothing, and
-- the part that is next; the constants and predicates that are declared; each `(` of the formula that is open, the last first;
-- the name that is declared, bound or written last; of the last predicate how many of its terms stand, and whether no more may
-- be open where it stands
pub record State : Type 0 where
  pub base : before.State
  pub part : DomainPart
  pub constants : List Name
  pub predicates : List Predicate
  pub scopes : List Scope
  pub name : Name
  pub terms : ℕ
  pub full : Bool

-- before the first token
abbrev pub at_start : State
at_start = record {
  base = before.at_start;
  part = domain.Text;
  constants = [];
  predicates = [];
  scopes = [];
  name = [];
  terms = 0;
  full = false;
}

-- the same state at another part
abbrev pub at_part : DomainPart → State → State
at_part p s = record {
  base = s.base;
  part = p;
  constants = s.constants;
  predicates = s.predicates;
  scopes = s.scopes;
  name = s.name;
  terms = s.terms;
  full = s.full;
}

-- the same state with another one of version 2, at what that one has next
abbrev pub with_base : before.State → State → State
with_base d s = record {
  base = d;
  part = domain.Text;
  constants = s.constants;
  predicates = s.predicates;
  scopes = s.scopes;
  name = s.name;
  terms = s.terms;
  full = s.full;
}

-- a constant, a predicate or a variable that is bound has this name
abbrev pub is_taken : State → Name → Bool
is_taken s w = list_any (same_name w) s.constants || list_any (has_name w) s.predicates
    || list_any (binds w) s.scopes

-- a constant or a variable that is bound has this name
abbrev pub is_term : State → Name → Bool
is_term s w = list_any (same_name w) s.constants || list_any (binds w) s.scopes

-- the predicate that is written takes more terms than so many
abbrev pub has_more : State → ℕ → Bool
has_more s n = list_any (takes_more s.name n) s.predicates

-- a predicate has this name
abbrev pub is_predicate : State → Name → Bool
is_predicate s w = list_any (has_name w) s.predicates

-- the letters of a word
abbrev pub letters_of : Token → Name
letters_of (Word w) = w
letters_of t = []

-- the first reason, or else the second
abbrev pub or_else : Option GroundKind → Option GroundKind → Option GroundKind
or_else (Some k) other = Some k
or_else None other = other

-- a reason of version 2
abbrev pub read_reason : Option ReadKind → Option GroundKind
read_reason (Some k) = Some (kind.Read k)
read_reason None = None

-- this reason where a test fails
abbrev pub unless : Bool → GroundKind → Option GroundKind
unless true k = None
unless false k = Some k

-- a word that is too long, or a token that isn't expected
abbrev pub unexpected : Bool → GroundKind → Token → Option GroundKind
unexpected expected k t = if is_too_long t then Some (kind.Read read.NameTooLong) else unless expected k

-- why a token isn't the version: version 2 refuses it, or else it isn't spelled `3`
abbrev pub version_refusal : State → Token → Option GroundKind
version_refusal s t = if is_three t then None
    else or_else (read_reason (before.refusal s.base t)) (Some (kind.Read read.VersionUnknown))

-- why a name is no predicate's
abbrev pub predicate_fault : State → Token → Option GroundKind
predicate_fault s t = if not (is_name t) then None
    else (if has_underscore (letters_of t) then Some kind.BadName
    else unless (is_predicate s (letters_of t)) kind.UnknownName)

-- why no operand begins with a token
abbrev pub operand_refusal : State → Token → Option GroundKind
operand_refusal s t = if is_quantifier t then None
    else (if is_declaring t then Some (kind.Read (read.Expected what.Formula))
    else or_else (read_reason (before.refusal s.base t)) (predicate_fault s t))

-- why a token is refused at what version 2 has next
abbrev pub text_refusal : State → Part → Token → Option GroundKind
text_refusal s part.Version t = version_refusal s t
text_refusal s part.Operand t = operand_refusal s t
text_refusal s p t = read_reason (before.refusal s.base t)

-- what is wrong with a name that is to be new: a `_`, or that it is taken
abbrev pub new_name_fault : State → Name → Option GroundKind
new_name_fault s w = if has_underscore w then Some kind.BadName else unless (not (is_taken s w)) kind.NameTaken

-- why no name that is new stands there
abbrev pub new_name_refusal : State → Token → Option GroundKind
new_name_refusal s t = or_else (unexpected (is_name t) (kind.Expected domain_what.Name) t) (new_name_fault s (letters_of t))

-- what is wrong with the name of a term: a `_`, or that it is neither a constant's nor a bound variable's
abbrev pub term_fault : State → Name → Option GroundKind
term_fault s w = if has_underscore w then Some kind.BadName else unless (is_term s w) kind.UnknownName

-- why no term stands there
abbrev pub term_refusal : State → Token → Option GroundKind
term_refusal s t = or_else (unexpected (is_name t) (kind.Expected domain_what.Name) t) (term_fault s (letters_of t))

-- why a token is refused behind the name of a predicate
abbrev pub terms_refusal : State → Token → Option GroundKind
terms_refusal s t = if is_the_sign Open t
    then or_else (unless (not s.full) (kind.Read read.TooDeep)) (unless (has_more s 0) kind.WrongCount)
    else or_else (read_reason (before.refusal s.base t)) (unless (not (has_more s 0)) kind.WrongCount)

-- what is wrong with the number of terms so far: a further one has to follow where the predicate takes more, and else the `)`
abbrev pub more_fault : State → Bool → Option GroundKind
more_fault s true = unless (has_more s s.terms) kind.WrongCount
more_fault s false = unless (not (has_more s s.terms)) kind.WrongCount

-- why a token is refused behind a term
abbrev pub more_refusal : State → Token → Option GroundKind
more_refusal s t = or_else (unexpected (is_the_sign Comma t || is_the_sign Close t) (kind.Expected domain_what.ParenEnd) t)
    (more_fault s (is_the_sign Comma t))

-- a symbol is expected that version 2 has too
abbrev pub sign_refusal : Bool → What → Token → Option GroundKind
sign_refusal expected w t = unexpected expected (kind.Read (read.Expected w)) t

-- why the token is refused, by the first reason, if it is
abbrev pub refusal_at : DomainPart → State → Token → Option GroundKind
refusal_at domain.Text s t = text_refusal s s.base.part t
refusal_at domain.Const s t = unexpected (is_the_word (codes "const") t) (kind.Expected domain_what.Const) t
refusal_at domain.Constant s t =
    or_else (new_name_refusal s t) (unless (nat_lt (length s.constants) MOST_CONSTANTS) kind.TooManyNames)
refusal_at domain.ConstMore s t =
    unexpected (is_the_sign Comma t || is_the_sign Semicolon t) (kind.Expected domain_what.ConstMore) t
refusal_at domain.Declaration s t = if is_the_word (codes "pred") t then None else read_reason (before.refusal s.base t)
refusal_at domain.Predicate s t =
    or_else (new_name_refusal s t) (unless (nat_lt (length s.predicates) MOST_PREDICATES) kind.TooManyNames)
refusal_at domain.PredicateParen s t = sign_refusal (is_the_sign Open t) what.Paren t
refusal_at domain.Arity s t =
    or_else (unexpected (is_number t) (kind.Expected domain_what.Arity) t) (unless (is_some (arity_of t)) kind.BadArity)
refusal_at domain.ArityEnd s t = unexpected (is_the_sign Close t) (kind.Expected domain_what.ParenEnd) t
refusal_at domain.PredicateEnd s t = sign_refusal (is_the_sign Semicolon t) what.Semicolon t
refusal_at domain.Bound s t = new_name_refusal s t
refusal_at domain.BoundParen s t =
    or_else (sign_refusal (is_the_sign Open t) what.Paren t) (read_reason (before.refusal s.base t))
refusal_at domain.Terms s t = terms_refusal s t
refusal_at domain.Term s t = term_refusal s t
refusal_at domain.TermMore s t = more_refusal s t

-- why the token is refused, if it is
unfoldable pub refusal : State → Token → Option GroundKind
refusal s t = refusal_at s.part s t

-- the scopes behind a token that version 2 takes in the place of an operand
abbrev pub scopes_opened : List Scope → Token → List Scope
scopes_opened ss t = if is_the_sign Open t then scope.Group ∷ ss else ss

-- the scopes behind a `)`
abbrev pub scopes_closed : List Scope → List Scope
scopes_closed [] = []
scopes_closed (x ∷ ss) = ss

-- the scopes behind a token that follows an operand
abbrev pub scopes_behind : List Scope → Token → List Scope
scopes_behind ss t = if is_the_sign Close t then scopes_closed ss else ss

-- with other scopes
abbrev pub with_scopes : List Scope → State → State
with_scopes ss s = record {
  base = s.base;
  part = s.part;
  constants = s.constants;
  predicates = s.predicates;
  scopes = ss;
  name = s.name;
  terms = s.terms;
  full = s.full;
}

-- behind the name of a predicate, which is an operand of version 2
abbrev pub with_predicate : State → Token → State
with_predicate s t = record {
  base = before.after s.base t;
  part = domain.Terms;
  constants = s.constants;
  predicates = s.predicates;
  scopes = s.scopes;
  name = letters_of t;
  terms = 0;
  full = is_some (before.refusal s.base (Sign Open));
}

-- behind a token in the place of an operand
abbrev pub after_operand : State → Token → State
after_operand s t = if is_quantifier t then at_part domain.Bound s
    else (if is_name t then with_predicate s t
    else with_scopes (scopes_opened s.scopes t) (with_base (before.after s.base t) s))

-- behind a token that follows an operand
abbrev pub after_operator : State → Token → State
after_operator s t = with_scopes (scopes_behind s.scopes t) (with_base (before.after s.base t) s)

-- behind a token at what version 2 has next
abbrev pub after_text : State → Part → Token → State
after_text s part.Version t = with_base (in_version Two part.HeadEnd) s
after_text s part.HeadEnd t = at_part domain.Const (with_base (before.after s.base t) s)
after_text s part.Operand t = after_operand s t
after_text s part.Operator t = after_operator s t
after_text s p t = with_base (before.after s.base t) s

-- with one constant more
abbrev pub with_constant : Name → State → State
with_constant w s = record {
  base = s.base;
  part = domain.ConstMore;
  constants = s.constants ++ w ∷ [];
  predicates = s.predicates;
  scopes = s.scopes;
  name = s.name;
  terms = s.terms;
  full = s.full;
}

-- with this name, which is declared or bound, at a part
abbrev pub with_name : Name → DomainPart → State → State
with_name w p s = record {
  base = s.base;
  part = p;
  constants = s.constants;
  predicates = s.predicates;
  scopes = s.scopes;
  name = w;
  terms = s.terms;
  full = s.full;
}

-- with one predicate more, of the name that is declared
abbrev pub with_arity : ℕ → State → State
with_arity n s = record {
  base = s.base;
  part = domain.ArityEnd;
  constants = s.constants;
  predicates = s.predicates ++ record { name = s.name; arity = n } ∷ [];
  scopes = s.scopes;
  name = s.name;
  terms = s.terms;
  full = s.full;
}

-- with one term more; no more are counted than one more than there may be
abbrev pub with_term : State → State
with_term s = record {
  base = s.base;
  part = domain.TermMore;
  constants = s.constants;
  predicates = s.predicates;
  scopes = s.scopes;
  name = s.name;
  terms = min (s.terms + 1) (MOST_ARITY + 1);
  full = s.full;
}

-- behind the `(` of a quantifier
abbrev pub with_scope : State → Token → State
with_scope s t = with_scopes (scope.Quantified s.name ∷ s.scopes) (with_base (before.after s.base t) s)

-- the state behind a token at a part
abbrev pub after_at : DomainPart → State → Token → State
after_at domain.Text s t = after_text s s.base.part t
after_at domain.Const s t = at_part domain.Constant s
after_at domain.Constant s t = with_constant (letters_of t) s
after_at domain.ConstMore s t = if is_the_sign Comma t then at_part domain.Constant s else at_part domain.Declaration s
after_at domain.Declaration s t = if is_the_word (codes "pred") t then at_part domain.Predicate s
    else with_base (before.after s.base t) s
after_at domain.Predicate s t = with_name (letters_of t) domain.PredicateParen s
after_at domain.PredicateParen s t = at_part domain.Arity s
after_at domain.Arity s t = with_arity (unwrap_or (arity_of t) 0) s
after_at domain.ArityEnd s t = at_part domain.PredicateEnd s
after_at domain.PredicateEnd s t = at_part domain.Declaration s
after_at domain.Bound s t = with_name (letters_of t) domain.BoundParen s
after_at domain.BoundParen s t = with_scope s t
after_at domain.Terms s t = if is_the_sign Open t then at_part domain.Term s else after_operator s t
after_at domain.Term s t = with_term s
after_at domain.TermMore s t = if is_the_sign Comma t then at_part domain.Term s else at_part domain.Text s

-- the state behind a token that isn't refused
unfoldable pub after : State → Token → State
after s t = after_at s.part s t

-- none of these tokens is refused, and behind them this is expected
abbrev pub Passes : State → List Token → State → Type 0
Passes s [] e = s ≡ e
Passes s (t ∷ ts) e = (refusal s t ≡ None) × Passes (after s t) ts e
