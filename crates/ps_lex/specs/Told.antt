-- What a lexer is to tell of pieces.
use Rattle.std.specs.Prelude.{◌≡◌, ◌≢◌, ℕ, List, [], ◌++◌, length, Some, None}
use Rattle.ps_text.specs.Pieces.{Piece, IsBad, texts}
use Rattle.ps_text.specs.Positions.{position_behind}
use Rattle.ps_lex.specs.declared.position.Position.{Position}
use Rattle.ps_lex.specs.Places.{start, line_and_column}
use Rattle.ps_lex.specs.Seen.{behind_all, told}
use Rattle.ps_lex.specs.Lexing.{new_lexer, lexed}

-- of all bytes of the pieces it tells their tokens
abbrev pub TellsAll : List Piece → Type 0
TellsAll pieces = lexed new_lexer (texts pieces) ≡ (told start pieces, None)

-- where no piece stands behind the pieces it tells their tokens and then this place
pub record TellsUpTo (pieces : List Piece) (rest : List ℕ) : Type 0 where
  pub bad : rest ≢ [] → IsBad rest → lexed new_lexer (texts pieces ++ rest) ≡ (
    told start pieces,
    Some (behind_all start (texts pieces)),
  )

-- the position is the one behind the bytes, and counts them
pub record IsPositionBehind (bytes : List ℕ) (position : Position) : Type 0 where
  pub offset : position.offset ≡ length bytes
  pub place : line_and_column position ≡ position_behind bytes
