-- What the judge of a report answers at its end.
use Rattle.std.specs.Prelude.{ℕ, Result, Ok, Err, List}
use Rattle.ps_problem.specs.Problems.{Parts}
use Rattle.ps_answer.specs.declared.answer.Answer.{Answer}
use Rattle.ps_answer.specs.Faults.{IsReport, IsFirstFault}
use Rattle.ps_valid.specs.declared.refusal.Accepted.{Accepted}
use Rattle.ps_valid.specs.declared.refusal.CheckError.TheVariants as whole
use Rattle.ps_valid.specs.Judged.{IsJudged}
use Rattle.ps_check.specs.declared.end.StreamEnd.{StreamEnd}
use Rattle.ps_check.specs.declared.end.StreamEnd.TheVariants.{Line, Refused, NoMemory}

-- the bytes are the report of an answer, of which this is answered
pub record IsJudgedReport (p : Parts) (bytes : List ℕ) (result : Result Accepted whole.the_data) : Type 0 where
  pub answer : Answer
  pub report : IsReport bytes answer
  pub judged : IsJudged p answer result

-- what is answered of bytes: the first line at fault; or of the answer whose report they are that it is accepted, or
-- why its first claim at fault is refused
abbrev pub AnswersReport : Parts → List ℕ → Result Accepted StreamEnd → Type 0
AnswersReport p bytes (Ok accepted) = IsJudgedReport p bytes (Ok accepted)
AnswersReport p bytes (Err (Line kind line)) = IsFirstFault bytes kind line
AnswersReport p bytes (Err (Refused r)) = IsJudgedReport p bytes (Err (whole.Refused r))
AnswersReport p bytes (Err NoMemory) = Unit {0}
