-- Runs of bytes that tell nothing.
use Rattle.std.specs.Prelude.{◌≡◌, ℕ, Bool, true, false, ◌-◌, ◌||◌, ◌==◌, not, IsTrue, List, [], ◌∷◌, ◌++◌, None}
use Rattle.std.specs.List.{AllByRecursion}
use Rattle.ps_text.specs.Tokens.{is_word_byte}
use Rattle.ps_text.specs.Pieces.{is_blank}
use Rattle.ps_lex.specs.declared.gap.Gap.{Gap}
use Rattle.ps_lex.specs.declared.position.Position.{Position}
use Rattle.ps_lex.specs.declared.mode.Mode.{Mode}
use Rattle.ps_lex.specs.declared.mode.Mode.TheVariants as mode
use Rattle.ps_lex.specs.Places.{along}
use Rattle.ps_lex.specs.Seen.{behind_all}
use Rattle.ps_lex.specs.Lexing.{LexerState, token_ended, with_byte, bad_place, letter_kept}

-- what the bytes and more stand in
abbrev pub with_bytes : LexerState → List ℕ → LexerState
with_bytes s [] = s
with_bytes s (b ∷ bs) = with_bytes (with_byte s b) bs

-- no token ends before the byte, and it shows no place where none begins
pub record TellsNothing (s : LexerState) (b : ℕ) : Type 0 where
  pub token : token_ended s b ≡ None
  pub place : bad_place (with_byte s b).mode ≡ None

-- nor do more
abbrev pub TellNothing : LexerState → List ℕ → Type 0
TellNothing s [] = Unit {0}
TellNothing s (b ∷ bs) = TellsNothing s b × TellNothing (with_byte s b) bs

-- bytes at the front were taken, these are left, and nothing was told
pub record Passes (s : LexerState) (bytes : List ℕ) (n : LexerState) (left : List ℕ) : Type 0 where
  pub passed : List ℕ
  pub bytes_are : bytes ≡ passed ++ left
  pub nothing_told : TellNothing s passed
  pub state : n ≡ with_bytes s passed
  pub place : n.here ≡ behind_all s.here passed

-- the byte is one of a comment, or a blank or a `#` outside of tokens, or goes on with a word
abbrev pub is_passed : Mode → ℕ → Bool
is_passed mode.Between b = is_blank b || b == 35
is_passed mode.Comment b = true
is_passed (mode.Word w) b = is_word_byte b
is_passed m b = false

-- the first of the bytes is none of these
abbrev pub AllPassed : Mode → List ℕ → Type 0
AllPassed m [] = Unit {0}
AllPassed m (b ∷ bs) = is_passed m b ≡ false

-- what blanks and comments stand in: a comment or none
abbrev pub gap_mode : Bool → Mode
gap_mode true = mode.Comment
gap_mode false = mode.Between

-- the state of a lexer in blanks and comments
abbrev pub gap_state : Bool → Position → Position → LexerState
gap_state c began here = record { mode = gap_mode c; began = began; here = here }

-- what blanks and comments as they are kept stand in
abbrev pub gap_state_of : Gap → LexerState
gap_state_of g = gap_state g.is_comment g.began g.here

-- a byte of a comment's line, or a space
abbrev pub is_in_line : Bool → ℕ → Bool
is_in_line true b = not (b == 10)
is_in_line false b = b == 32

-- such bytes stand at the front, and these are left
pub record AreInLine (c : Bool) (bytes left : List ℕ) : Type 0 where
  pub passed : List ℕ
  pub bytes_are : bytes ≡ passed ++ left
  pub all : AllByRecursion (λ b. IsTrue (is_in_line c b)) passed

-- the state behind so many more bytes of a comment's line, or spaces
abbrev pub along_line : Bool → Position → Position → ℕ → LexerState
along_line true began here n = gap_state true began (along here n)
along_line false began here n = gap_state false (along here (n - 1)) (along here n)

-- these bytes more of a word, as many as are kept
abbrev pub letters_kept : List ℕ → List ℕ → List ℕ
letters_kept w [] = w
letters_kept w (b ∷ bs) = letters_kept (letter_kept w b) bs

-- bytes of words stand at the front and were added to a word, and these are left
pub record TakesLetters (w bytes n left : List ℕ) : Type 0 where
  pub passed : List ℕ
  pub bytes_are : bytes ≡ passed ++ left
  pub all : AllByRecursion (λ b. IsTrue (is_word_byte b)) passed
  pub kept : n ≡ letters_kept w passed

-- none stands at the front
abbrev pub EndsLetters : List ℕ → Type 0
EndsLetters [] = Unit {0}
EndsLetters (b ∷ bs) = is_word_byte b ≡ false
