-- What is known of the lines that were taken.
use Rattle.std.specs.Prelude.{◌≡◌, ℕ, ◌+◌, ◌≤◌, List, [], ◌∷◌, ◌++◌, length, Result}
use Rattle.ps_log.specs.FirstLines.{IsOneLine}
use Rattle.ps_problem.specs.Problems.{Parts}
use Rattle.ps_answer.specs.declared.part.Part.{Part}
use Rattle.ps_answer.specs.ExpectedParts.{at_start}
use Rattle.ps_valid.specs.declared.refusal.Accepted.{Accepted}
use Rattle.ps_check.specs.declared.end.StreamEnd.{StreamEnd}
use Rattle.ps_check.specs.declared.progress.Progress.{Progress}
use Rattle.ps_check.specs.declared.state.State.{State}
use Rattle.ps_check.specs.declared.state.State.TheVariants.{Reading, AtFault, OutOfMemory}
use Rattle.ps_check.specs.Counts.{most_in}
use Rattle.ps_check.specs.Reading.{Lines, Answers, HasRead, HasFault}

-- the problem, how many lines were taken, and how far the report has come
pub record StreamState : Type 0 where
  pub problem : Parts
  pub taken : ℕ
  pub state : State

-- the most lines that may still be looked at: those of the parts that are due, and one behind the end
abbrev pub most_left : State → ℕ
most_left (Reading due g) = most_in due + 1
most_left (AtFault kind line) = 0
most_left OutOfMemory = 0

-- with those that may still be looked at, no more lines were than those of a report and one
abbrev pub IsCounted : ℕ → State → Type 0
IsCounted taken s = taken + most_left s ≤ most_in at_start + 1

-- lines were read up to here, and they are so many
pub record HasReadAll (p : Parts) (taken : ℕ) (lines : Lines) (due : List Part) (g : Progress) : Type 0 where
  pub read : HasRead p lines due g
  pub all : taken ≡ length lines

-- what is known of lines on a problem, so many of which were taken; where memory ran out nothing is
abbrev pub Knows : Parts → ℕ → State → Lines → Type 0
Knows p taken (Reading due g) lines = HasReadAll p taken lines due g
Knows p taken (AtFault kind line) lines = HasFault lines kind line
Knows p taken OutOfMemory lines = ⊥

-- these lines were taken
abbrev pub HasTaken : StreamState → Lines → Type 0
HasTaken s lines = Knows s.problem s.taken s.state lines

-- this is answered of all lines that were taken, and of what is left behind them
abbrev pub AnswersTaken : StreamState → List ℕ → Result Accepted StreamEnd → Type 0
AnswersTaken s rest result = (lines : Lines) → HasTaken s lines → Answers s.problem lines rest result

-- a line was taken behind those that were taken before
pub record HasTakenOn (old : StreamState) (line : List ℕ) (new : StreamState) : Type 0 where
  pub taken : (lines : Lines) → HasTaken old lines → HasTaken new (lines ++ line ∷ [])

-- a line, given with its feed, was taken behind those that were taken before
pub record HasTakenFed (old : StreamState) (line : List ℕ) (new : StreamState) : Type 0 where
  pub on : (text : List ℕ) → IsOneLine text → line ≡ text ++ 10 ∷ [] → HasTakenOn old text new

-- a line was read behind those that were read before
pub record HasReadOn (p : Parts) (taken : ℕ) (due : List Part) (g : Progress) (line : List ℕ) (new : State) : Type 0 where
  pub read : (lines : Lines) → HasReadAll p taken lines due g → Knows p (taken + 1) new (lines ++ line ∷ [])
  pub counted : IsCounted taken (Reading due g) → IsCounted (taken + 1) new

-- a line with its feed, of this number, was read behind those before it
pub record IsReadOn (p : Parts) (due : List Part) (g : Progress) (line : List ℕ) (number : ℕ) (new : State) : Type 0 where
  pub on : (text : List ℕ) → IsOneLine text → line ≡ text ++ 10 ∷ [] → (taken : ℕ) → number ≡ taken + 1
      → HasReadOn p taken due g text new

-- the same lines were taken, and these parts are due
abbrev pub reading : StreamState → List Part → Progress → StreamState
reading s due g = record { problem = s.problem; taken = s.taken; state = Reading due g }

-- memory ran out
abbrev pub IsOutOfMemory : StreamState → Type 0
IsOutOfMemory s = s.state ≡ OutOfMemory
