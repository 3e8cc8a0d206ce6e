-- How far the lines of a report have been read, and which of them is the first at fault.
use Rattle.std.specs.Prelude.{ℕ, false, List, ◌++◌, Result, Ok, Err}
use Rattle.ps_io.specs.LineText.{lines_bytes}
use Rattle.ps_problem.specs.Problems.{Parts}
use Rattle.ps_answer.specs.declared.item.LineItem.{LineItem}
use Rattle.ps_answer.specs.declared.part.Part.{Part}
use Rattle.ps_answer.specs.declared.error.LineKind.{LineKind}
use Rattle.ps_answer.specs.Faults.{IsFirstFault}
use Rattle.ps_valid.specs.declared.refusal.Accepted.{Accepted}
use Rattle.ps_valid.specs.declared.refusal.Refusal.{Refusal}
use Rattle.ps_check.specs.declared.end.StreamEnd.{StreamEnd}
use Rattle.ps_check.specs.declared.end.StreamEnd.TheVariants.{Refused}
use Rattle.ps_check.specs.declared.progress.Progress.{Progress}
use Rattle.ps_check.specs.Progress.{at_first, HaveTaken}
use Rattle.ps_check.specs.Ends.{AnswersReport}
use Rattle.ps_check.specs.DueLines.{AreDueLines}

-- lines, without their line feeds
abbrev pub Lines : Type 0
Lines = List (List ℕ)

-- the bytes of lines and of what is left behind them
abbrev pub bytes_of : Lines → List ℕ → List ℕ
bytes_of lines rest = lines_bytes false lines ++ rest

-- lines were read, each of which is due and within the limits; behind them these parts are due, and the judge has come so far
pub record HasRead (p : Parts) (lines : Lines) (due : List Part) (g : Progress) : Type 0 where
  pub items : List LineItem
  pub said : AreDueLines lines items due
  pub judged : HaveTaken p items at_first g

-- the line of this number is the first at fault among lines, whatever follows them
pub record HasFault (lines : Lines) (kind : LineKind) (line : ℕ) : Type 0 where
  pub first : (rest : List ℕ) → IsFirstFault (bytes_of lines rest) kind line

-- what is answered of lines and of what is left behind them
abbrev pub Answers : Parts → Lines → List ℕ → Result Accepted StreamEnd → Type 0
Answers p lines rest result = AnswersReport p (bytes_of lines rest) result

-- the same as the answer to a report
abbrev pub of_stream : Result Accepted Refusal → Result Accepted StreamEnd
of_stream (Ok accepted) = Ok accepted
of_stream (Err r) = Err (Refused r)
