-- What is found of an input: of a problem's text at its front, and of the report behind it.
use Rattle.std.specs.Prelude.{ℕ, List, Option, Result, Ok, Err, take, drop}
use Rattle.ps_io.specs.Transfer.{ReadAll}
use Rattle.ps_problem.specs.Problems.{Parts}
use Rattle.ps_read.specs.Readings.{SpellsProblem, IsUnread}
use Rattle.ps_valid.specs.declared.refusal.Accepted.{Accepted}
use Rattle.ps_check.specs.declared.end.StreamEnd.{StreamEnd}
use Rattle.ps_check.specs.declared.end.StreamEnd.TheVariants as end
use Rattle.ps_check.specs.Ends.{AnswersReport}
use Rattle.ps_check.specs.declared.intake.TheConstants.{MOST_SEARCHED}
use Rattle.ps_check.specs.declared.checked.Checked.{Checked}
use Rattle.ps_check.specs.declared.checked.Checked.TheVariants as found

-- a problem is spelled at the front of the searched bytes, and this is answered of the bytes behind it as a report on it
pub record IsReportJudged (searched bytes : List ℕ) (result : Result Accepted StreamEnd) : Type 0 where
  pub problem : Parts
  pub place : ℕ
  pub spells : SpellsProblem searched problem place
  pub answers : AnswersReport problem (drop place bytes) result

-- this is found of bytes in which these are searched for a problem: the report behind it is judged, or none is read
abbrev pub IsFoundBy : List ℕ → List ℕ → Checked → Type 0
IsFoundBy searched bytes (found.Accepted accepted) = IsReportJudged searched bytes (Ok accepted)
IsFoundBy searched bytes (found.Refused r) = IsReportJudged searched bytes (Err (end.Refused r))
IsFoundBy searched bytes (found.RefusedLine kind line) = IsReportJudged searched bytes (Err (end.Line kind line))
IsFoundBy searched bytes (found.Unreadable kind line column) = IsUnread searched kind (record { line = line; column = column })

-- the bytes in which a problem is looked for: as many of the first as are searched at most
abbrev pub searched_in : List ℕ → List ℕ
searched_in bytes = take MOST_SEARCHED bytes

-- this is found of bytes
abbrev pub IsFoundIn : List ℕ → Checked → Type 0
IsFoundIn bytes checked = IsFoundBy (searched_in bytes) bytes checked

-- all known bytes were taken, they are at most `limit`, and this is found of them
pub record HasChecked (limit : ℕ) (old new : Option (List ℕ)) (checked : Checked) : Type 0 where
  pub bytes : List ℕ
  pub read : ReadAll limit old new bytes
  pub found : IsFoundIn bytes checked
