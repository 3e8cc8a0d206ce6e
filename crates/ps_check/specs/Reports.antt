-- What is known of an input behind its problem part.
use Rattle.std.specs.Prelude.{◌≡◌, ◌<◌, ◌≤◌, ◌⊎◌, ℕ, List, [], ◌++◌, length, drop}
use Rattle.ps_log.specs.FirstLines.{IsOneLine}
use Rattle.ps_problem.specs.Problems.{Parts}
use Rattle.ps_read.specs.Readings.{SpellsProblem, IsUnread}
use Rattle.ps_read.specs.Stages.{FrontState, HasPushed}
use Rattle.ps_check.specs.declared.checked.Checked.{Checked}
use Rattle.ps_check.specs.declared.judge.Judge.{Judge}
use Rattle.ps_check.specs.declared.report.Report.{Report}
use Rattle.ps_check.specs.declared.report.Report.TheVariants.{Judging, Refused}
use Rattle.ps_check.specs.Checks.{IsFoundBy}
use Rattle.ps_check.specs.Judging as judging

-- no line feed is in the part of a line that is kept
abbrev pub IsSound : Report → Type 0
IsSound (Judging judge) = IsOneLine judge.partial.items
IsSound (Refused kind line column) = Unit {0}

-- a report on this problem is judged, of which these bytes were taken
pub record HasJudged (p : Parts) (judge : Judge) (bytes : List ℕ) : Type 0 where
  pub problem : judge.check.problem ≡ p
  pub taken : judging.HasTaken judge bytes

-- it is judged so
abbrev pub IsJudging : Parts → List ℕ → Report → Type 0
IsJudging p bytes (Judging judge) = HasJudged p judge bytes
IsJudging p bytes (Refused kind line column) = ⊥

-- the problem is spelled at the front of the searched bytes, and the bytes behind it were taken as a report on it
pub record IsBehind (searched bytes : List ℕ) (judge : Judge) : Type 0 where
  pub place : ℕ
  pub within : place ≤ length bytes
  pub spells : SpellsProblem searched judge.check.problem place
  pub taken : judging.HasTaken judge (drop place bytes)

-- what is known of bytes, where these are searched for a problem
abbrev pub Knows : List ℕ → List ℕ → Report → Type 0
Knows searched bytes (Judging judge) = IsBehind searched bytes judge
Knows searched bytes (Refused kind line column) = IsUnread searched kind (record { line = line; column = column })

-- the searched bytes are those that were pushed, and more of them only where the problem part ended before
pub record IsSearched (f : FrontState) (pushed searched : List ℕ) : Type 0 where
  pub known : HasPushed f pushed
  pub more : List ℕ
  pub is : searched ≡ pushed ++ more
  pub ends : (f.taken < length pushed) ⊎ (more ≡ [])

-- these bytes stand behind those of the problem part
pub record IsRest (taken : ℕ) (bytes rest : List ℕ) : Type 0 where
  pub within : taken ≤ length bytes
  pub rest_is : drop taken bytes ≡ rest

-- of bytes whose problem part ends, and of those behind it, this is known
pub record HasBegun (f : FrontState) (rest : List ℕ) (r : Report) : Type 0 where
  pub known : (pushed searched bytes : List ℕ) → IsSearched f pushed searched → IsRest f.taken bytes rest
      → Knows searched bytes r

-- the bytes of a piece were taken behind those before them
pub record HasTakenOn (old : Report) (piece : List ℕ) (new : Report) : Type 0 where
  pub taken : (searched bytes : List ℕ) → Knows searched bytes old → Knows searched (bytes ++ piece) new

-- this is found of the bytes of which it is known
pub record IsFound (r : Report) (checked : Checked) : Type 0 where
  pub found : (searched bytes : List ℕ) → Knows searched bytes r → IsFoundBy searched bytes checked
