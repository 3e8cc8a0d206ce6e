-- What an answer to a problem is to be.
use Rattle.std.specs.Prelude.{false}
use Rattle.ps_io.specs.LineText.{lines_bytes}
use Rattle.ps_problem.specs.Problems.{Parts}
use Rattle.ps_answer.specs.declared.answer.Answer.{Answer}
use Rattle.ps_answer.specs.Answers.{answer_lines}
use Rattle.ps_answer.specs.Faults.{IsReport}
use Rattle.ps_claims.specs.Validity.{IsValid}
use Rattle.ps_valid.specs.Answers.{answer_of, IsRightOf}
use Rattle.ps_runs.specs.Verdicts.{IsLawfulAnswer}
use Rattle.ps_claims.specs.Printed.{IsPrintedAnswer}
use Rattle.ps_runs.specs.declared.limits.Limits.{Limits}
use Rattle.ps_query.specs.Laws.{NamesFewWorlds}
pub use Rattle.ps_query.specs.Laws.{AreShortLines}

-- an answer to a problem within limits: each claim is valid and right, its runs are lawful, what is open is licensed,
-- and all of it can be printed
pub record IsSolution (limits : Limits) (p : Parts) (a : Answer) : Type 0 where
  pub valid : IsValid p (answer_of a)
  pub right : IsRightOf p a
  pub lawful : IsLawfulAnswer p limits a
  pub printed : IsPrintedAnswer a

-- where nothing is open, or the pivots were fewer than the most, the report is read back as the answer
abbrev pub IsReadBack : Limits → Answer → Type 0
IsReadBack limits a = NamesFewWorlds limits.pivots a → IsReport (lines_bytes false (answer_lines a)) a
