-- What is known of the bytes that were pushed.
use Rattle.std.specs.Prelude.{◌≡◌, ◌<◌, ◌+◌, ◌^◌, ℕ, List, ◌++◌, length, Result, Ok, Err, IfOk}
use Rattle.ps_lex.specs.Lexing.{new_lexer}
use Rattle.ps_text.specs.declared.kind.ReadKind.{ReadKind}
use Rattle.ps_text.specs.Positions.{Position}
use Rattle.ps_problem.specs.Problems.{Parts}
use Rattle.ps_read.specs.declared.read_error.ReadError.{ReadError}
use Rattle.ps_read.specs.declared.read_error.ReadError.TheVariants as error
use Rattle.ps_read.specs.Readings.{SpellsProblem, IsUnread}
use Rattle.ps_read.specs.Reads.{Tells}
use Rattle.ps_read.specs.Answers.{Parsed, answer, nothing_parsed, IsBuiltOf, IsExcessIn, IsWaiting}
use Rattle.ps_io.specs.declared.no_memory.NoMemory.{NoMemory}
use Rattle.ps_read.specs.declared.reader.Reader.{Reader}
use Rattle.ps_read.specs.declared.stage.Stage.{Stage}
use Rattle.ps_read.specs.declared.stage.Stage.TheVariants as stage
use Rattle.ps_read.specs.Fronts.{IsProblemPart}
use Rattle.ps_read.specs.Takings.{answer_behind}

-- what is known, and how many of the bytes belong to the problem part
pub record FrontState : Type 0 where
  pub stage : Stage
  pub taken : ℕ

-- a reader has read some bytes and waits for more, for which there is room
pub record IsReady (r : Reader) : Type 0 where
  pub waits : IsWaiting r
  pub room : r.lexer.here.offset + 1 < 2 ^ 32
  pub bytes : List ℕ
  pub answer_is : (more : List ℕ) → answer new_lexer nothing_parsed (bytes ++ more) ≡ answer_behind r more

-- what is known stands on a reader that is ready, if it reads on
abbrev pub IsSound : Stage → Type 0
IsSound (stage.Reading r) = IsReady r
IsSound s = Unit {0}

-- a reader that reads on stands behind so many bytes
abbrev pub StandsBehind : Stage → ℕ → Type 0
StandsBehind (stage.Reading r) taken = r.lexer.here.offset ≡ taken
StandsBehind s taken = Unit {0}

-- a reader has read these bytes: the answer to them and more is its answer to more
pub record HasRead (r : Reader) (bytes : List ℕ) (taken : ℕ) : Type 0 where
  pub all : taken ≡ length bytes
  pub answer_is : (more : List ℕ) → answer new_lexer nothing_parsed (bytes ++ more) ≡ answer_behind r more

-- the problem is spelled at the front of the bytes and of more, and ends before the bytes do
pub record IsFollowed (p : Parts) (bytes : List ℕ) (taken : ℕ) : Type 0 where
  pub before : taken < length bytes
  pub spells : (more : List ℕ) → SpellsProblem (bytes ++ more) p taken

-- no problem is read at the front of the bytes and of more, for this kind at this position
pub record IsRefused (kind : ReadKind) (position : Position) (bytes : List ℕ) (taken : ℕ) : Type 0 where
  pub all : taken ≡ length bytes
  pub unread : (more : List ℕ) → IsUnread (bytes ++ more) kind position

-- what is known of bytes, of which so many belong to the problem part; where memory ran out nothing is
abbrev pub Knows : Stage → ℕ → List ℕ → Type 0
Knows (stage.Reading r) taken bytes = HasRead r bytes taken
Knows (stage.Followed p) taken bytes = IsFollowed p bytes taken
Knows (stage.Refused kind line column) taken bytes = IsRefused kind (record { line = line; column = column }) bytes taken
Knows stage.OutOfMemory taken bytes = ⊥

-- these bytes were pushed
abbrev pub HasPushed : FrontState → List ℕ → Type 0
HasPushed f bytes = Knows f.stage f.taken bytes

-- the bytes of a piece were pushed behind what was pushed before
pub record HasPushedOn (old : FrontState) (piece : List ℕ) (new : FrontState) : Type 0 where
  pub pushed : (bytes : List ℕ) → HasPushed old bytes → HasPushed new (bytes ++ piece)

-- so many of a piece's bytes belong to the problem part of all that was pushed then
pub record IsPieceOfPart (old : FrontState) (piece : List ℕ) (count : ℕ) : Type 0 where
  pub part : (bytes : List ℕ) → HasPushed old bytes → IsProblemPart (bytes ++ piece) (old.taken + count)

-- memory ran out
abbrev pub IsOutOfMemory : FrontState → Type 0
IsOutOfMemory f = f.stage ≡ stage.OutOfMemory

-- a refusal, to which all of the bytes belong
abbrev pub behind_refusal : ReadError → ℕ → Result (Stage × ℕ) NoMemory
behind_refusal (error.At kind line column) all = Ok (stage.Refused kind line column, all)
behind_refusal error.NoMemory all = Err (record {})

-- behind a text that ends: its problem, with the bytes up to its end, or the first excess, with all of them
abbrev pub IsBehindText : Parsed → ℕ → ℕ → Result (Stage × ℕ) NoMemory → Type 0
IsBehindText x count all (Ok (stage.Followed p, n)) = IsBuiltOf x (Ok p) × (n ≡ count)
IsBehindText x count all (Ok (stage.Refused kind line column, n)) =
    IsExcessIn x kind (record { line = line; column = column }) × (n ≡ all)
IsBehindText x count all (Ok (s, n)) = ⊥
IsBehindText x count all (Err e) = Unit {0}

-- the problem of the bytes, or why and where none is read, unless memory ran out
abbrev pub IsRead : List ℕ → ℕ → Result Parts ReadError → Type 0
IsRead bytes taken (Ok p) = SpellsProblem bytes p taken
IsRead bytes taken (Err e) = Tells (IsUnread bytes) e

-- behind a piece more of what was known it is known of that and the piece
pub record IsKnownOn (s : Stage) (taken : ℕ) (piece : List ℕ) (result : Result (Stage × ℕ) NoMemory) : Type 0 where
  pub known : (bytes : List ℕ) → Knows s taken bytes → IfOk result (λ x. Knows x.0 x.1 (bytes ++ piece))

-- at the end of what was known the problem is answered, or why and where none is read
pub record IsReadOf (s : Stage) (result : Result Parts ReadError) : Type 0 where
  pub read : (taken : ℕ) (bytes : List ℕ) → StandsBehind s taken → Knows s taken bytes → IsRead bytes taken result
