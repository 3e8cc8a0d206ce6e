-- What is asked of a token that is to be taken, and what was done when it was taken.
use Rattle.std.specs.Prelude.{◌≡◌, ◌≤◌, ◌+◌, ◌++◌, ℕ, Bool, true, false, not, ◌&&◌}
use Rattle.std.specs.Prelude.{if◌then◌else◌, List, [], ◌∷◌, Some, None, codes, length, IsTrue}
use Rattle.ps_meaning.specs.Names.{is_word}
use Rattle.ps_text.specs.Tokens as text
use Rattle.ps_text.specs.Tokens.{Word, is_the_word}
use Rattle.ps_text.specs.declared.part.Part.{Part}
use Rattle.ps_text.specs.declared.part.Part.TheVariants as part
use Rattle.ps_text.specs.ExpectedTokens.{refusal}
use Rattle.ps_lex.specs.declared.position.Position.{Position}
use Rattle.ps_lex.specs.declared.token.Token.{Token}
use Rattle.ps_lex.specs.declared.token.Token.TheVariants as token
use Rattle.ps_lex.specs.KeptTokens.{token_of}
use Rattle.ps_read.specs.declared.parser.Parser.{Parser}
use Rattle.ps_read.specs.declared.parse_error.ParseError.{ParseError}
use Rattle.ps_read.specs.declared.parse_error.ParseError.TheVariants as error
use Rattle.ps_read.specs.Machine.{Machine, next}
use Rattle.ps_read.specs.Derivations.{IsParsed}
use Rattle.ps_read.specs.Kept.{machine_of, drafted_in, places_of}

-- where the token is a word, it is spelled as one
abbrev pub IsKept : Token → Type 0
IsKept (token.Word w) = IsTrue (is_word w)
IsKept t = Unit {0}

-- names, formulas and items are at most so many
pub record CountsAtMost (n : ℕ) (m : Machine) : Type 0 where
  pub names : length (drafted_in m).names ≤ n
  pub formulas : length (drafted_in m).formulas ≤ n
  pub items : length (drafted_in m).items ≤ n

-- names, formulas and items are one more at most
pub record IsOneMore (old new : Parser) : Type 0 where
  pub counts : (n : ℕ) → CountsAtMost n (machine_of old) → CountsAtMost (n + 1) (machine_of new)

-- whether an item is expected at a part
abbrev pub is_item : Part → Bool
is_item part.Item = true
is_item p = false

-- an item begins with the token: it stands where an item is expected, and isn't `end`
abbrev pub begins : Part → text.Token → Bool
begins p t = is_item p && not (is_the_word (codes "end") t)

-- the place of a token that begins an item
abbrev pub begun_at : Part → text.Token → Position → List Position
begun_at p t place = if begins p t then place ∷ [] else []

-- the token isn't refused, and behind it the machine is in its next state and keeps where items begin
pub record IsTaken (old : Parser) (t : Token) (place : Position) (new : Parser) : Type 0 where
  pub passed : refusal (machine_of old).state (token_of t) ≡ None
  pub machine : machine_of new ≡ next (machine_of old) (token_of t)
  pub parsed : IsParsed (machine_of new)
  pub counts : IsOneMore old new
  pub places : places_of new ≡ places_of old ++ begun_at (machine_of old).state.part (token_of t) place

-- a refused token changes nothing
abbrev pub IsTokenRefused : Parser → Token → Parser → ParseError → Type 0
IsTokenRefused old t new (error.Refused kind) =
    (refusal (machine_of old).state (token_of t) ≡ Some kind) × (machine_of new ≡ machine_of old)
    × (places_of new ≡ places_of old)
IsTokenRefused old t new error.NoMemory = Unit {0}
