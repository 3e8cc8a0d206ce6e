-- What is kept of tokens, and where they begin.
use Rattle.std.specs.Prelude.{ℕ, min, List, [], ◌∷◌, length, take}
use Rattle.ps_text.specs.Tokens as text
use Rattle.ps_text.specs.Pieces.{Piece, Blank, Comment, Spelled}
use Rattle.ps_lex.specs.declared.position.Position.{Position}
use Rattle.ps_lex.specs.declared.token.Numeral.{Numeral}
use Rattle.ps_lex.specs.declared.token.Numeral.TheVariants as numeral
use Rattle.ps_lex.specs.declared.token.Token.{Token}
use Rattle.ps_lex.specs.declared.token.Token.TheVariants as token
use Rattle.ps_lex.specs.declared.word.TheConstants.{KEPT_LETTERS}
use Rattle.ps_lex.specs.declared.digits.TheConstants.{MANY_DIGITS}
use Rattle.ps_lex.specs.Counted.{no_digits, with_digits}
use Rattle.ps_lex.specs.Places.{behind}

-- what is kept of a number: what counts of its digits, and how many of them are decimals
abbrev pub numeral_seen : text.Numeral → Numeral
numeral_seen (text.Whole ds) = numeral.Whole (with_digits no_digits ds)
numeral_seen (text.Quotient ds es) = numeral.Quotient (with_digits no_digits ds) (with_digits no_digits es)
numeral_seen (text.Decimal ds es) = numeral.Decimal (with_digits (with_digits no_digits ds) es) (min (length es) MANY_DIGITS)

-- what is kept of a token: the first bytes of a word, and of digits what counts
abbrev pub seen : text.Token → Token
seen (text.Word w) = token.Word (take KEPT_LETTERS w)
seen (text.Number n) = token.Number (numeral_seen n)
seen (text.Sign s) = token.Sign s

-- the position behind bytes
abbrev pub behind_all : Position → List ℕ → Position
behind_all p [] = p
behind_all p (b ∷ bs) = behind_all (behind p b) bs

-- the tokens of pieces from a position on, each with where it begins
abbrev pub told : Position → List Piece → List (Token × Position)
told p [] = []
told p (Blank b ∷ ps) = told (behind p b) ps
told p (Comment c ∷ ps) = told (behind_all p (35 ∷ c)) ps
told p (Spelled t ∷ ps) = (seen t, p) ∷ told (behind_all p (text.spelling t)) ps
