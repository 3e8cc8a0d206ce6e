-- What is kept of a state.
use Rattle.std.specs.Prelude.{◌≡◌, Option, None}
use Rattle.ps_text.specs.Tokens as text
use Rattle.ps_text.specs.ExpectedTokens as before
use Rattle.ps_lex.specs.Seen.{seen}
use Rattle.ps_lex.specs.KeptTokens as kept
use Rattle.ps_lex.specs.declared.token.Token.{Token}
use Rattle.ps_domains.specs.declared.state.DomainState.{DomainState}
use Rattle.ps_domains.specs.declared.domain_part.DomainPart.{DomainPart}
use Rattle.ps_domains.specs.declared.kind.GroundKind.{GroundKind}
use Rattle.ps_domains.specs.DomainTokens.{State, refusal, after, letters_of, scopes_opened, scopes_behind}
use Rattle.ps_domains.specs.DomainTokens.{with_base, with_name, with_scopes}

-- the state, in the words of the definitions
abbrev pub state_of : DomainState → State
state_of s = record {
  base = kept.state_of s.base;
  part = s.part;
  constants = s.declared.constants;
  predicates = s.declared.predicates;
  scopes = s.scopes;
  name = s.name;
  terms = s.terms;
  full = s.is_full;
}

-- what is kept goes on behind a token as this says
abbrev pub GoesOn : (State → text.Token → State) → DomainState → Token → DomainState → Type 0
GoesOn next old t new = state_of new ≡ next (state_of old) (kept.token_of t)

-- why a token is refused there, by what says so of states
abbrev pub refusal_by : (State → text.Token → Option GroundKind) → DomainState → Token → Option GroundKind
refusal_by why s t = why (state_of s) (kept.token_of t)

-- the token is one of those that version 2 expects there
abbrev pub IsTaken : DomainState → Token → Type 0
IsTaken s t = before.refusal (kept.state_of s.base) (kept.token_of t) ≡ None

-- behind a token that version 2 takes
abbrev pub after_base : State → text.Token → State
after_base s t = with_base (before.after s.base t) s

-- a `(` around a formula is open behind it
abbrev pub after_open : State → text.Token → State
after_open s t = with_scopes (scopes_opened s.scopes t) s

-- behind a `)` the last `(` is open no more
abbrev pub after_close : State → text.Token → State
after_close s t = with_scopes (scopes_behind s.scopes t) s

-- behind a name that is declared or bound, where this part is next
abbrev pub after_name : DomainPart → State → text.Token → State
after_name part s t = with_name (letters_of t) part s

-- the state behind a token
abbrev pub behind : DomainState → Token → State
behind s t = after (state_of s) (kept.token_of t)

-- what is kept of a token is refused as the token is
abbrev pub IsRefusedAlike : State → text.Token → Type 0
IsRefusedAlike s t = refusal s (kept.token_of (seen t)) ≡ refusal s t

-- behind what is kept of a token the same is expected as behind the token
abbrev pub IsPassedAlike : State → text.Token → Type 0
IsPassedAlike s t = after s (kept.token_of (seen t)) ≡ after s t
