-- Laws of writing what a run answers.
use Rattle.ps_runs.specs.declared.limits.Limits.{Limits}
use Rattle.std.specs.Prelude.{◌≡◌, ◌⊎◌, ℕ, ◌<◌, ◌≤◌, false, length}
use Rattle.std.specs.List.{AllByRecursion}
use Rattle.ps_io.specs.LineText.{lines_bytes}
use Rattle.ps_io.specs.declared.limits.TheConstants.{LONGEST_LINE}
use Rattle.ps_problem.specs.Problems.{Parts, AreParts}
use Rattle.ps_answer.specs.declared.limits.TheConstants.{MOST_PIVOTS}
use Rattle.ps_log.specs.declared.limits.TheConstants.{MOST_CONFLICTS}
use Rattle.ps_answer.specs.declared.answer.Answer.{Answer}
use Rattle.ps_answer.specs.Items.{IsProper, IsWithin, item_line}
use Rattle.ps_answer.specs.Answers.{answer_items, answer_lines}
use Rattle.ps_answer.specs.Faults.{IsText, IsReport}
use Rattle.ps_claims.specs.Claims.{unfinished_of}
use Rattle.ps_claims.specs.Validity.{IsValid}
use Rattle.ps_valid.specs.Answers.{answer_of}
use Rattle.ps_claims.specs.Printed.{IsPrintedAnswer}
use Rattle.ps_query.specs.Settled.{IsSettledAnswer}

-- an answer within the limits of pivots and conflicts: each part has its certificates or comes of a lawful run; it is
-- valid, and of numbers that can be printed
pub record IsAnswered (p : Parts) (limits : Limits) (a : Answer) : Type 0 where
  pub parts : AreParts p
  pub few_pivots : limits.pivots ≤ MOST_PIVOTS
  pub few_conflicts : limits.conflicts ≤ MOST_CONFLICTS
  pub settled : IsSettledAnswer p limits a
  pub valid : IsValid p (answer_of a)
  pub printed : IsPrintedAnswer a

-- the worlds that an open part may name are within the limits of a report: the limit of pivots is below the greatest that words
-- may set, or nothing is open
abbrev pub NamesFewWorlds : ℕ → Answer → Type 0
NamesFewWorlds pivots a = (pivots < MOST_PIVOTS) ⊎ (unfinished_of (answer_of a) ≡ 0)

-- each line item of an answer has numbers of the signs that it asks, and within the limits of a report
abbrev pub AnswersAreWithin : Type 0
AnswersAreWithin = (p : Parts) (limits : Limits) (a : Answer) → IsAnswered p limits a → NamesFewWorlds limits.pivots a
    → AllByRecursion (λ i. IsProper i × IsWithin i) (answer_items a)

-- each line of an answer's report is short enough to be written
abbrev pub AreShortLines : Answer → Type 0
AreShortLines a = AllByRecursion (λ i. length (item_line i) < LONGEST_LINE) (answer_items a)

-- so is each line of what a run answers
abbrev pub AnswersAreShort : Type 0
AnswersAreShort = (p : Parts) (limits : Limits) (a : Answer) → IsAnswered p limits a → AreShortLines a

-- the lines of an answer, as they are written, are a report of it
abbrev pub AnswersAreReports : Type 0
AnswersAreReports = (p : Parts) (limits : Limits) (a : Answer) → IsAnswered p limits a → NamesFewWorlds limits.pivots a
    → IsReport (lines_bytes false (answer_lines a)) a

-- whatever the limits, the lines of an answer, as they are written, are its text, and that of no other answer
abbrev pub AnswersAreTexts : Type 0
AnswersAreTexts = (p : Parts) (limits : Limits) (a : Answer) → IsAnswered p limits a
    → IsText (lines_bytes false (answer_lines a)) a × ((b : Answer) → IsText (lines_bytes false (answer_lines a)) b → b ≡ a)
