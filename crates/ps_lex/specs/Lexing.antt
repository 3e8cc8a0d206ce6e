-- What one more byte does.
use Rattle.std.specs.Prelude.{ℕ, Bool, true, false, ◌+◌, ◌≤◌, min, nat_lt, ◌==◌}
use Rattle.std.specs.Prelude.{if◌then◌else◌, List, [], ◌∷◌, ◌++◌, length, Option, Some, None}
use Rattle.ps_text.specs.Tokens.{is_letter, is_digit, is_word_byte}
use Rattle.ps_text.specs.Pieces.{is_blank}
use Rattle.ps_lex.specs.declared.digits.Digits.{Digits}
use Rattle.ps_lex.specs.declared.position.Position.{Position}
use Rattle.ps_lex.specs.declared.token.Numeral.TheVariants as numeral
use Rattle.ps_text.specs.declared.symbol.Symbol.TheVariants as symbol
use Rattle.ps_lex.specs.declared.token.Token.{Token}
use Rattle.ps_lex.specs.declared.token.Token.TheVariants as token
use Rattle.ps_lex.specs.declared.word.TheConstants.{KEPT_LETTERS}
use Rattle.ps_lex.specs.declared.digits.TheConstants.{MANY_DIGITS}
use Rattle.ps_lex.specs.declared.mode.Mode.{Mode}
use Rattle.ps_lex.specs.declared.mode.Mode.TheVariants as mode
use Rattle.ps_lex.specs.declared.step.Step.{Step}
use Rattle.ps_lex.specs.Counted.{no_digits, with_digit, IsCapped}
use Rattle.ps_lex.specs.Places.{start, behind}

-- the mode behind a symbol's first byte, ( ) [ ] , ; ! & | = + - < or >, and behind one that begins no token
abbrev pub symbol_begun : Position → ℕ → Mode
symbol_begun here b =
    if b == 40 then mode.Sign symbol.Open else if b == 41 then mode.Sign symbol.Close
    else if b == 91 then mode.Sign symbol.OpenBracket else if b == 93 then mode.Sign symbol.CloseBracket
    else if b == 44 then mode.Sign symbol.Comma else if b == 59 then mode.Sign symbol.Semicolon
    else if b == 33 then mode.Sign symbol.Bang else if b == 38 then mode.Sign symbol.Ampersand
    else if b == 124 then mode.Sign symbol.Bar else if b == 61 then mode.Sign symbol.Equals
    else if b == 43 then mode.Sign symbol.Plus else if b == 45 then mode.Minus
    else if b == 60 then mode.Less else if b == 62 then mode.Greater
    else mode.Bad here

-- the mode behind a byte outside of tokens that stands here
unfoldable pub begun : Position → ℕ → Mode
begun here b =
    if is_blank b then mode.Between else if b == 35 then mode.Comment
    else if is_letter b then mode.Word (b ∷ []) else if is_digit b then mode.Whole (with_digit no_digits b)
    else symbol_begun here b

-- a token ends before the byte
abbrev pub ended : Token → Position → ℕ → Step
ended t here b = record { mode = begun here b; began = here; ended = Some t }

-- the byte belongs to what is begun
abbrev pub continued : Mode → Position → Step
continued m began = record { mode = m; began = began; ended = None }

-- one byte more of a word, of which so many are kept
abbrev pub letter_kept : List ℕ → ℕ → List ℕ
letter_kept w b = if nat_lt (length w) KEPT_LETTERS then w ++ b ∷ [] else w

-- digits without `/` or `.`
abbrev pub whole : Digits → Token
whole d = token.Number (numeral.Whole d)

-- behind a `/`: a digit goes on with the number, which else ended before the `/`, where no token begins
abbrev pub slash_followed : Digits → Position → Position → ℕ → Step
slash_followed d slash began b =
    if is_digit b then continued (mode.Quotient d (with_digit no_digits b)) began
    else record { mode = mode.Bad slash; began = began; ended = Some (whole d) }

-- and so behind a `.`
abbrev pub point_followed : Digits → Position → Position → ℕ → Step
point_followed d point began b =
    if is_digit b then continued (mode.Decimal (with_digit d b) 1) began
    else record { mode = mode.Bad point; began = began; ended = Some (whole d) }

-- the mode behind a further byte of a symbol; where it doesn't fit, no token begins at the symbol's first byte
abbrev pub symbol_followed : Mode → Position → ℕ → Mode
symbol_followed mode.Less began b = if b == 61 then mode.Sign symbol.LessEquals else if b == 45 then mode.LessMinus
    else mode.Bad began
symbol_followed mode.LessMinus began b = if b == 62 then mode.Sign symbol.DoubleArrow else mode.Bad began
symbol_followed mode.Greater began b = if b == 61 then mode.Sign symbol.GreaterEquals else mode.Bad began
symbol_followed m began b = mode.Bad began

-- what a byte does that stands here, by the mode and the place where the token began that isn't whole
abbrev pub stepped_in : Mode → Position → Position → ℕ → Step
stepped_in mode.Between began here b = record { mode = begun here b; began = here; ended = None }
stepped_in mode.Comment began here b = continued (if b == 10 then mode.Between else mode.Comment) began
stepped_in (mode.Word w) began here b = if is_word_byte b then continued (mode.Word (letter_kept w b)) began
    else ended (token.Word w) here b
stepped_in (mode.Whole d) began here b =
    if is_digit b then continued (mode.Whole (with_digit d b)) began
    else if b == 47 then continued (mode.Slash d here) began
    else if b == 46 then continued (mode.Point d here) began else ended (whole d) here b
stepped_in (mode.Slash d slash) began here b = slash_followed d slash began b
stepped_in (mode.Quotient d e) began here b =
    if is_digit b then continued (mode.Quotient d (with_digit e b)) began
    else ended (token.Number (numeral.Quotient d e)) here b
stepped_in (mode.Point d point) began here b = point_followed d point began b
stepped_in (mode.Decimal d k) began here b =
    if is_digit b then continued (mode.Decimal (with_digit d b) (min (k + 1) MANY_DIGITS)) began
    else ended (token.Number (numeral.Decimal d k)) here b
stepped_in mode.Minus began here b = if b == 62 then continued (mode.Sign symbol.Arrow) began
    else ended (token.Sign symbol.Minus) here b
stepped_in (mode.Sign s) began here b = ended (token.Sign s) here b
stepped_in (mode.Bad p) began here b = continued (mode.Bad p) began
stepped_in m began here b = continued (symbol_followed m began b) began

-- what the bytes so far stand in, where the token began that isn't whole, and where the next byte stands
pub record LexerState : Type 0 where
  pub mode : Mode
  pub began : Position
  pub here : Position

-- before the first byte
abbrev pub new_lexer : LexerState
new_lexer = record { mode = mode.Between; began = start; here = start }

-- behind a byte outside of tokens, which is blank or begins one
abbrev pub with_begun : LexerState → ℕ → LexerState
with_begun s b = record { mode = begun s.here b; began = s.here; here = behind s.here b }

-- the token that a byte ends, if there is one
unfoldable pub token_ended : LexerState → ℕ → Option Token
token_ended s b = (stepped_in s.mode s.began s.here b).ended

-- what the bytes and one more stand in
unfoldable pub with_byte : LexerState → ℕ → LexerState
with_byte s b = record {
  mode = (stepped_in s.mode s.began s.here b).mode;
  began = (stepped_in s.mode s.began s.here b).began;
  here = behind s.here b;
}

-- the token that ends with the bytes, if they end here
abbrev pub last_token : Mode → Option Token
last_token (mode.Word w) = Some (token.Word w)
last_token (mode.Whole d) = Some (whole d)
last_token (mode.Slash d slash) = Some (whole d)
last_token (mode.Quotient d e) = Some (token.Number (numeral.Quotient d e))
last_token (mode.Point d point) = Some (whole d)
last_token (mode.Decimal d k) = Some (token.Number (numeral.Decimal d k))
last_token mode.Minus = Some (token.Sign symbol.Minus)
last_token (mode.Sign s) = Some (token.Sign s)
last_token m = None

-- where no token begins, if the bytes end here
abbrev pub last_bad : Mode → Position → Option Position
last_bad (mode.Slash d slash) began = Some slash
last_bad (mode.Point d point) began = Some point
last_bad mode.Less began = Some began
last_bad mode.LessMinus began = Some began
last_bad mode.Greater began = Some began
last_bad (mode.Bad p) began = Some p
last_bad m began = None

-- where no token begins, if the bytes so far show such a place
abbrev pub bad_place : Mode → Option Position
bad_place (mode.Bad p) = Some p
bad_place m = None

-- a token began that isn't whole
abbrev pub is_within_token : Mode → Bool
is_within_token mode.Between = false
is_within_token mode.Comment = false
is_within_token (mode.Bad p) = false
is_within_token m = true

-- of letters and digits no more is kept than counts
abbrev pub IsCappedMode : Mode → Type 0
IsCappedMode (mode.Word w) = length w ≤ KEPT_LETTERS
IsCappedMode (mode.Whole d) = IsCapped d
IsCappedMode (mode.Slash d p) = IsCapped d
IsCappedMode (mode.Quotient d e) = IsCapped d × IsCapped e
IsCappedMode (mode.Point d p) = IsCapped d
IsCappedMode (mode.Decimal d k) = IsCapped d × (k ≤ MANY_DIGITS)
IsCappedMode m = Unit {0}

-- a token, if there is one, with where it began
abbrev pub with_place : Option Token → Position → List (Token × Position)
with_place None p = []
with_place (Some t) p = (t, p) ∷ []

-- behind a place where no token begins nothing is told
abbrev pub stops_or : Option Position → List (Token × Position) × Option Position → List (Token × Position) × Option Position
stops_or (Some p) rest = ([], Some p)
stops_or None rest = rest

-- tokens, and then what else is told
abbrev pub after_tokens : List (Token × Position) → List (Token × Position) × Option Position
    → List (Token × Position) × Option Position
after_tokens ts rest = (ts ++ rest.0, rest.1)

-- the tokens that bytes tell from here on, with where they begin, and where no token begins, if there is such a place
unfoldable pub lexed : LexerState → List ℕ → List (Token × Position) × Option Position
lexed s [] = (with_place (last_token s.mode) s.began, last_bad s.mode s.began)
lexed s (b ∷ bs) = after_tokens (with_place (token_ended s b) s.began)
    (stops_or (bad_place (with_byte s b).mode) (lexed (with_byte s b) bs))
