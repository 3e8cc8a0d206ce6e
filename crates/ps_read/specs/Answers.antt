-- What bytes tell of a problem's text, worked out token by token.
use Rattle.std.specs.Prelude.{◌≡◌, ◌+◌, ◌-◌, ◌++◌, ℕ, length, get_or, Bool, true, false, ◌&&◌}
use Rattle.std.specs.Prelude.{if◌then◌else◌, List, [], ◌∷◌, Option, Some, None, Result, Ok, Err, IsTrue}
use Rattle.ps_meaning.specs.Names.{is_word}
use Rattle.ps_text.specs.Positions as text
use Rattle.ps_text.specs.declared.part.Part.{Part}
use Rattle.ps_text.specs.declared.part.Part.TheVariants as part
use Rattle.ps_text.specs.declared.kind.ReadKind.{ReadKind}
use Rattle.ps_text.specs.declared.kind.ReadKind.TheVariants.{BadByte, EndMissing}
use Rattle.ps_text.specs.ExpectedTokens.{refusal}
use Rattle.ps_lex.specs.declared.mode.Mode.{Mode}
use Rattle.ps_lex.specs.declared.mode.Mode.TheVariants as mode
use Rattle.ps_lex.specs.declared.position.Position.{Position}
use Rattle.ps_lex.specs.declared.token.Token.{Token}
use Rattle.ps_lex.specs.Places.{start, line_and_column, IsWithin}
use Rattle.ps_lex.specs.Seen.{behind_all}
use Rattle.ps_lex.specs.Lexing.{LexerState, bad_place, is_within_token, lexed}
use Rattle.ps_lex.specs.KeptTokens.{token_of}
use Rattle.ps_read.specs.declared.parser.Parser.{Parser}
use Rattle.ps_read.specs.Machine.{Machine, at_first, next}
use Rattle.ps_read.specs.Derivations.{IsParsed}
use Rattle.ps_read.specs.Kept.{machine_of, places_of, drafted_in}
use Rattle.ps_read.specs.Taking.{IsKept, CountsAtMost, begun_at}
use Rattle.ps_read.specs.declared.read_error.ReadError.{ReadError}
use Rattle.ps_read.specs.declared.read_error.ReadError.TheVariants as error
use Rattle.ps_read.specs.declared.reader.Reader.{Reader}
use Rattle.ps_read.specs.Kinds.{count_kind}
use Rattle.ps_read.specs.Readings.{IsProblemOf, SpellsProblem, IsUnread}
use Rattle.ps_read.specs.Reads.{Tells}
use Rattle.ps_problem.specs.Problems.{Parts}
use Rattle.ps_problem.specs.Counts.{ItemExcess, counted}

-- what was parsed: the machine's state, and where the items' first tokens stand
pub record Parsed : Type 0 where
  pub machine : Machine
  pub places : List Position

-- before the first token
abbrev pub nothing_parsed : Parsed
nothing_parsed = record { machine = at_first; places = [] }

-- what a parser has parsed
abbrev pub parsed_by : Parser → Parsed
parsed_by p = record { machine = machine_of p; places = places_of p }

-- the part that is expected
abbrev pub part_of : Parsed → Part
part_of x = x.machine.state.part

-- with a token that isn't refused
abbrev pub with_token : Parsed → Token → Position → Parsed
with_token x t place = record {
  machine = next x.machine (token_of t);
  places = x.places ++ begun_at (part_of x) (token_of t) place;
}

-- why a token is refused
abbrev pub refusal_of : Parsed → Token → Option ReadKind
refusal_of x t = refusal x.machine.state (token_of t)

-- whether the text is whole
abbrev pub is_done : Part → Bool
is_done part.Done = true
is_done p = false

-- where the text and the blanks behind it end, with what was parsed; or why and where the form is refused
abbrev pub Answer : Type 0
Answer = Result (Position × Parsed) (ReadKind × text.Position)

-- the form is refused for this kind at this position
abbrev pub refused_at : ReadKind → Position → Answer
refused_at kind p = Err (kind, line_and_column p)

-- at the end of the bytes, or where no token begins
abbrev pub ended : Parsed → ReadKind → Position → Answer
ended x kind p = if is_done (part_of x) then Ok (p, x) else refused_at kind p

-- at a token that is refused, or behind one that isn't
abbrev pub refused_or : Option ReadKind → Position → Answer → Answer
refused_or (Some kind) p rest = refused_at kind p
refused_or None p rest = rest

-- tokens, each with where it begins, and then the end or a place where none begins
abbrev pub judged : Parsed → List (Token × Position) → Option Position → Position → Answer
judged x [] None end = ended x EndMissing end
judged x [] (Some p) end = ended x BadByte p
judged x (t ∷ ts) bad end = if is_done (part_of x) then Ok (t.1, x)
    else refused_or (refusal_of x t.0) t.1 (judged (with_token x t.0 t.1) ts bad end)

-- all bytes, behind what was lexed and parsed
unfoldable pub answer : LexerState → Parsed → List ℕ → Answer
answer s x bytes = judged x (lexed s bytes).0 (lexed s bytes).1 (behind_all s.here bytes)

-- at a place where no token begins, if there is one; then the rest
abbrev pub bad_or : Option Position → Parsed → (Parsed → Answer) → Answer
bad_or None x rest = rest x
bad_or (Some p) x rest = ended x BadByte p

-- a token, if one ended, is judged; then a place where none begins, if there is one; then the rest
abbrev pub step_answer : Option Token → Position → Option Position → Parsed → (Parsed → Answer) → Answer
step_answer None began bad x rest = bad_or bad x rest
step_answer (Some t) began bad x rest =
    if is_done (part_of x) then Ok (began, x) else refused_or (refusal_of x t) began (bad_or bad (with_token x t began) rest)

-- what was returned agrees with the answer: it is known, with what is parsed then, or it is that of the rest
abbrev pub Agrees : Answer → Answer → Parsed → Result (Option Position) ReadError → Type 0
Agrees all rest x (Ok None) = all ≡ rest
Agrees all rest x (Ok (Some p)) = all ≡ Ok (p, x)
Agrees all rest x (Err (error.At kind line column)) = all ≡ Err (kind, record { line = line; column = column })
Agrees all rest x (Err error.NoMemory) = Unit {0}

-- a token, if one ended, and a place where none begins, if there is one, were judged
pub record IsStepAnswered (token : Option Token) (began : Position) (bad : Option Position) (old new : Parsed)
    (result : Result (Option Position) ReadError) : Type 0 where
  pub agrees : (rest : Parsed → Answer) → Agrees (step_answer token began bad old rest) (rest new) new result

-- so a parser judged them
abbrev pub IsJudged : Option Token → Position → Option Position → (old new : Parser) → Result (Option Position) ReadError → Type 0
IsJudged token began bad old new result = IsStepAnswered token began bad (parsed_by old) (parsed_by new) result

-- the answer is this, unless memory ran out
abbrev pub AgreesAtEnd : Answer → Parsed → Result Position ReadError → Type 0
AgreesAtEnd all x (Ok p) = all ≡ Ok (p, x)
AgreesAtEnd all x (Err (error.At kind line column)) = all ≡ Err (kind, record { line = line; column = column })
AgreesAtEnd all x (Err error.NoMemory) = Unit {0}

-- where the token begins that stands behind a whole text, if one has begun
abbrev pub begun_behind : Parsed → LexerState → Option Position
begun_behind x s = if is_done (part_of x) && is_within_token s.mode then Some s.began else None

-- a byte was taken: the answer to it and to more bytes is known, or it is that to more bytes
pub record IsFed (byte : ℕ) (old new : Reader) (result : Result (Option Position) ReadError) : Type 0 where
  pub agrees : (more : List ℕ) →
      Agrees (answer old.lexer (parsed_by old.parser) (byte ∷ more)) (answer new.lexer (parsed_by new.parser) more)
      (parsed_by new.parser) result

-- bytes at the front were passed: the answer to all of them is that to those that are left
pub record HasPassed (bytes : List ℕ) (old : Reader) (left : List ℕ) (new : Reader) : Type 0 where
  pub answer_is : answer old.lexer (parsed_by old.parser) bytes ≡ answer new.lexer (parsed_by new.parser) left
  pub taken : new.lexer.here.offset + length left ≡ old.lexer.here.offset + length bytes

-- what was returned is the answer
abbrev pub Answers : Answer → Result (Parser × Position) ReadError → Type 0
Answers all (Ok x) = all ≡ Ok (x.1, parsed_by x.0)
Answers all (Err (error.At kind line column)) = all ≡ Err (kind, record { line = line; column = column })
Answers all (Err error.NoMemory) = Unit {0}

-- the answer to no more bytes
abbrev pub IsFinished : Reader → Result (Parser × Position) ReadError → Type 0
IsFinished reader result = Answers (answer reader.lexer (parsed_by reader.parser) []) result

-- a token that ended, if one did, is kept of a token
abbrev pub IsKeptIn : Option Token → Type 0
IsKeptIn None = Unit {0}
IsKeptIn (Some t) = IsKept t

-- what is kept of a word that isn't whole is a word
abbrev pub IsWordMode : Mode → Type 0
IsWordMode (mode.Word w) = IsTrue (is_word w)
IsWordMode m = Unit {0}

-- what was lexed and parsed belongs together: as many tokens were parsed at most as bytes were taken
pub record BelongsTogether (reader : Reader) : Type 0 where
  pub word : IsWordMode reader.lexer.mode
  pub here : IsWithin (reader.lexer.here.offset + 1) reader.lexer.here
  pub parsed : IsParsed (machine_of reader.parser)
  pub counts : CountsAtMost reader.lexer.here.offset (machine_of reader.parser)

-- where the text and the blanks behind it end isn't known yet
pub record IsWaiting (r : Reader) : Type 0 where
  pub together : BelongsTogether r
  pub bad : bad_place r.lexer.mode ≡ None
  pub begun : begun_behind (parsed_by r.parser) r.lexer ≡ None

-- no answer is known only where no token is bad
abbrev pub GoesOnWithout : Option Position → Result (Option Position) ReadError → Type 0
GoesOnWithout bad (Ok None) = bad ≡ None
GoesOnWithout bad r = Unit {0}

-- while no answer is known, the reader waits
abbrev pub WaitsAt : Reader → Result (Option Position) ReadError → Type 0
WaitsAt new (Ok None) = IsWaiting new
WaitsAt new r = Unit {0}

-- an item of those that were parsed passes a limit of this kind, and its first token stands at this position
pub record IsExcessIn (x : Parsed) (kind : ReadKind) (position : text.Position) : Type 0 where
  pub first : ItemExcess
  pub counts : counted (drafted_in x.machine).items ≡ Err first
  pub kind_is : kind ≡ count_kind first.excess
  pub position_is : position ≡ line_and_column (get_or x.places (first.item - 1) start)

-- the problem of what was parsed, or its first excess, unless memory ran out
abbrev pub IsBuiltOf : Parsed → Result Parts ReadError → Type 0
IsBuiltOf x (Ok p) = IsProblemOf (drafted_in x.machine).items p
IsBuiltOf x (Err e) = Tells (IsExcessIn x) e

-- as many items have begun as are whole
abbrev pub AreWhole : Parsed → Type 0
AreWhole x = length x.places ≡ length (drafted_in x.machine).items

-- what was returned is so, with the position behind the text
abbrev pub IsRight : List ℕ → Result (Parts × Position) ReadError → Type 0
IsRight bytes (Ok x) = SpellsProblem bytes x.0 x.1.offset × (line_and_column x.1 ≡ text.position_of bytes x.1.offset)
IsRight bytes (Err e) = Tells (IsUnread bytes) e
