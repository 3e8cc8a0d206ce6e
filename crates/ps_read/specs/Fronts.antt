-- The part of some bytes that a problem at their front takes up.
use Rattle.std.specs.Prelude.{◌≡◌, ◌<◌, ◌≤◌, ℕ, List, length, take, Result, IfErr, IfOk}
use Rattle.ps_text.specs.declared.kind.ReadKind.{ReadKind}
use Rattle.ps_text.specs.Positions.{Position}
use Rattle.ps_problem.specs.Problems.{Parts}
use Rattle.ps_read.specs.declared.read_error.ReadError.{ReadError}
use Rattle.ps_read.specs.Readings.{SpellsProblem, SpellsWhole, IsUnread}
use Rattle.ps_read.specs.Reads.{Gives, Refuses, Tells}

-- a problem is spelled at the front of the bytes, and this is the place behind its text and the blanks and comments that follow
abbrev pub EndsAt : List ℕ → ℕ → Type 0
EndsAt bytes place = (p : Parts) × SpellsProblem bytes p place

-- so many bytes belong to the problem part: all, up to the place where a problem at their front ends and more follows
pub record IsProblemPart (bytes : List ℕ) (count : ℕ) : Type 0 where
  pub within : count ≤ length bytes
  pub followed : count < length bytes → EndsAt bytes count
  pub only : (place : ℕ) → EndsAt bytes place → place ≡ count

-- what is spelled at the front, up to this place, is spelled by the bytes before it alone
abbrev pub IsReadAlone : List ℕ → ℕ → Type 0
IsReadAlone bytes place = (p : Parts) → SpellsProblem bytes p place → SpellsWhole (take place bytes) p

-- the problem of the answer is spelled at the front, up to this place
abbrev pub FindsUpTo : List ℕ → ℕ → Result Parts ReadError → Type 0
FindsUpTo bytes place result = IfOk result (λ p. SpellsProblem bytes p place)

-- each problem that is spelled at the front is the answer
pub record ReadsFront (bytes : List ℕ) (result : Result Parts ReadError) : Type 0 where
  pub read : (p : Parts) (place : ℕ) → SpellsProblem bytes p place → Gives p result

-- what is told against the bytes is so
abbrev pub TellsUnread : List ℕ → Result Parts ReadError → Type 0
TellsUnread bytes result = IfErr result (Tells (IsUnread bytes))

-- each refusal is the answer
pub record RefusesFront (bytes : List ℕ) (result : Result Parts ReadError) : Type 0 where
  pub refused : (kind : ReadKind) (position : Position) → IsUnread bytes kind position → Refuses kind position result
