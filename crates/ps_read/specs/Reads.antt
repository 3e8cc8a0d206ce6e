-- What a call that reads a problem promises of its answer.
use Rattle.std.specs.Prelude.{◌≡◌, ℕ, List, Result, Ok, Err}
use Rattle.ps_text.specs.declared.kind.ReadKind.{ReadKind}
use Rattle.ps_text.specs.Positions.{Position}
use Rattle.ps_problem.specs.Problems.{Parts}
use Rattle.ps_read.specs.declared.read_error.ReadError.{ReadError}
use Rattle.ps_read.specs.declared.read_error.ReadError.TheVariants as error
use Rattle.ps_read.specs.Readings.{SpellsProblem, SpellsWhole, IsUnread, IsUnreadWhole}

-- an error tells why and where no problem is read, unless memory ran out
abbrev pub Tells : (ReadKind → Position → Type 0) → ReadError → Type 0
Tells IsRefusedAt (error.At kind line column) = IsRefusedAt kind (record { line = line; column = column })
Tells IsRefusedAt error.NoMemory = Unit {0}

-- the answer is this value, unless memory ran out
abbrev pub Gives : {A : Type 0} → A → Result A ReadError → Type 0
Gives a (Ok b) = b ≡ a
Gives a (Err (error.At kind line column)) = ⊥
Gives a (Err error.NoMemory) = Unit {0}

-- the answer is this refusal, unless memory ran out
abbrev pub Refuses : {A : Type 0} → ReadKind → Position → Result A ReadError → Type 0
Refuses kind position (Ok b) = ⊥
Refuses kind position (Err (error.At k line column)) = (k ≡ kind) × (record { line = line; column = column } ≡ position)
Refuses kind position (Err error.NoMemory) = Unit {0}

-- each problem that is spelled at the front is the answer, with the place behind its text
pub record ReadsEach (bytes : List ℕ) (result : Result (Parts × ℕ) ReadError) : Type 0 where
  pub read : (p : Parts) (place : ℕ) → SpellsProblem bytes p place → Gives (p, place) result

-- each refusal is the answer
pub record RefusesEach (bytes : List ℕ) (result : Result (Parts × ℕ) ReadError) : Type 0 where
  pub refused : (kind : ReadKind) (position : Position) → IsUnread bytes kind position → Refuses kind position result

-- the same of all bytes
pub record ReadsEachWhole (bytes : List ℕ) (result : Result Parts ReadError) : Type 0 where
  pub read : (p : Parts) → SpellsWhole bytes p → Gives p result

-- each refusal of all bytes is the answer
pub record RefusesEachWhole (bytes : List ℕ) (result : Result Parts ReadError) : Type 0 where
  pub refused : (kind : ReadKind) (position : Position) → IsUnreadWhole bytes kind position → Refuses kind position result
