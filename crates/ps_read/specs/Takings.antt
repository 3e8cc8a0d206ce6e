-- What a reader has taken of a piece.
use Rattle.std.specs.Prelude.{◌≡◌, ◌+◌, ℕ, List, ◌∷◌, ◌++◌, length, Option, Some, None, Result, Ok, Err}
use Rattle.ps_lex.specs.declared.position.Position.{Position}
use Rattle.ps_text.specs.declared.kind.ReadKind.{ReadKind}
use Rattle.ps_text.specs.Positions as text
use Rattle.ps_read.specs.declared.read_error.ReadError.{ReadError}
use Rattle.ps_read.specs.declared.read_error.ReadError.TheVariants as error
use Rattle.ps_read.specs.Answers.{Answer, answer, parsed_by, IsWaiting}
use Rattle.ps_read.specs.declared.reader.Reader.{Reader}

-- the answer to more bytes
abbrev pub answer_behind : Reader → List ℕ → Answer
answer_behind r more = answer r.lexer (parsed_by r.parser) more

-- bytes were taken, and nothing is known
pub record HasTaken (bytes : List ℕ) (old new : Reader) : Type 0 where
  pub answer_is : (more : List ℕ) → answer_behind old (bytes ++ more) ≡ answer_behind new more
  pub waits : IsWaiting new
  pub taken : new.lexer.here.offset ≡ old.lexer.here.offset + length bytes

-- bytes at the front were taken, and these are left
pub record HasPassed (bytes : List ℕ) (old : Reader) (left : List ℕ) (new : Reader) : Type 0 where
  pub passed : List ℕ
  pub bytes_are : bytes ≡ passed ++ left
  pub taken : HasTaken passed old new

-- so many bytes were taken, and the byte behind them shows where the text and its blanks end
pub record HasFound (piece : List ℕ) (old new : Reader) (count : ℕ) : Type 0 where
  pub before : List ℕ
  pub byte : ℕ
  pub after : List ℕ
  pub middle : Reader
  pub piece_is : piece ≡ before ++ byte ∷ after
  pub count_is : count ≡ length before
  pub taken : HasTaken before old middle
  pub place : Position
  pub answer_is : (more : List ℕ) → answer_behind middle (byte ∷ more) ≡ Ok (place, parsed_by new.parser)

-- the form is refused within the bytes, whatever follows
pub record HasRefused (piece : List ℕ) (old : Reader) (kind : ReadKind) (position : text.Position) : Type 0 where
  pub answer_is : (more : List ℕ) → answer_behind old (piece ++ more) ≡ Err (kind, position)

-- what was returned of a piece is so
abbrev pub IsTaken : List ℕ → (old new : Reader) → Result (Option ℕ) ReadError → Type 0
IsTaken piece old new (Ok None) = HasTaken piece old new
IsTaken piece old new (Ok (Some count)) = HasFound piece old new count
IsTaken piece old new (Err (error.At kind line column)) = HasRefused piece old kind (record { line = line; column = column })
IsTaken piece old new (Err error.NoMemory) = Unit {0}
