-- What is kept of tokens, as tokens, and what is kept of the state.
use Rattle.std.specs.Prelude.{◌≡◌, ℕ, zero, suc, ◌+◌, ◌==◌, ◌<◌, true, if◌then◌else◌, List, [], ◌∷◌, ◌++◌, replicate, Option}
use Rattle.ps_text.specs.declared.limits.TheConstants.{MOST_TERMS}
use Rattle.ps_text.specs.Tokens as text
use Rattle.ps_text.specs.ExpectedTokens as expected
use Rattle.ps_lex.specs.declared.digits.Digits.{Digits}
use Rattle.ps_lex.specs.declared.token.Numeral.{Numeral}
use Rattle.ps_lex.specs.declared.token.Numeral.TheVariants as numeral
use Rattle.ps_lex.specs.declared.token.Token.{Token}
use Rattle.ps_lex.specs.declared.token.Token.TheVariants as token
use Rattle.ps_lex.specs.Seen.{seen}
use Rattle.ps_lex.specs.declared.state.State.{State}

-- digits that are worth this value, and are one digit exactly if the count is 1: the last one is worth all of it,
-- however much that is
unfoldable pub figures : ℕ → ℕ → List ℕ
figures count value = if count == 1 then (48 + value) ∷ [] else 48 ∷ (48 + value) ∷ []

-- the same for digits as they are kept
abbrev pub digits_of : Digits → List ℕ
digits_of d = figures d.count d.value

-- a decimal with so many digits behind the point, whose digits are together worth this value
unfoldable pub decimal_of : ℕ → ℕ → text.Numeral
decimal_of zero value = text.Decimal ((48 + value) ∷ []) []
decimal_of (suc k) value = text.Decimal [] (replicate k 48 ++ (48 + value) ∷ [])

-- a number with what counts of the digits
abbrev pub numeral_of : Numeral → text.Numeral
numeral_of (numeral.Whole d) = text.Whole (digits_of d)
numeral_of (numeral.Quotient d e) = text.Quotient (digits_of d) (digits_of e)
numeral_of (numeral.Decimal d k) = decimal_of k d.value

-- a token that is judged as each one of which this is kept
abbrev pub token_of : Token → text.Token
token_of (token.Word w) = text.Word w
token_of (token.Number n) = text.Number (numeral_of n)
token_of (token.Sign s) = text.Sign s

-- the state, in the words of the definitions
abbrev pub state_of : State → expected.State
state_of s = record {
  part = s.part;
  query = s.query;
  given = s.given;
  opened = s.opened;
  version = s.version;
  linear = s.linear;
  minus = s.minus;
}

-- the state with no `!` open that was opened last
abbrev pub nots_ended : State → expected.State
nots_ended s = expected.within s.part (state_of s) (expected.without_nots s.opened)

-- the state with no `->` open that was opened last
abbrev pub arrows_ended : State → expected.State
arrows_ended s = expected.within s.part (state_of s) (expected.without_arrows s.opened)

-- the state behind a token
abbrev pub behind : State → Token → expected.State
behind s t = expected.after (state_of s) (token_of t)

-- the state behind a token in the place of an operand
abbrev pub behind_operand : State → Token → expected.State
behind_operand s t = expected.after_operand (state_of s) (token_of t)

-- the state behind a token that follows an operand
abbrev pub behind_operator : State → Token → expected.State
behind_operator s t = expected.after_operator (state_of s) (token_of t)

-- what is kept of a token is refused as the token is
abbrev pub IsRefusedAlike : expected.State → text.Token → Type 0
IsRefusedAlike s t = expected.refusal s (token_of (seen t)) ≡ expected.refusal s t

-- behind what is kept of a token the same is expected as behind the token
abbrev pub IsPassedAlike : expected.State → text.Token → Type 0
IsPassedAlike s t = expected.after s (token_of (seen t)) ≡ expected.after s t

-- where the token begins a further term, there is room for it
abbrev pub HasRoom : Option ℕ → text.Token → Type 0
HasRoom linear t = expected.is_term_sign t ≡ true → expected.terms_so_far linear < MOST_TERMS
