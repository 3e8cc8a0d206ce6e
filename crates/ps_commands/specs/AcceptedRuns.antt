-- What a run of `solve` wrote, behind its problem, is accepted by a run of `check`; so for `maxsat` and `check-maxsat`.
use Rattle.std.specs.Prelude.{◌≡◌, ◌≢◌, ◌<◌, ◌≤◌, ◌⊎◌, ℕ, Bool, List, ◌++◌, length, codes, Some, String}
use Rattle.std.specs.declared.alloc.Global.{Global}
use Rattle.ps_problem.specs.Problems.{Parts}
use Rattle.ps_read.specs.Readings.{SpellsWhole}
use Rattle.ps_answer.specs.declared.answer.Answer.{Answer}
use Rattle.ps_answer.specs.declared.limits.TheConstants.{MOST_PIVOTS}
use Rattle.ps_claims.specs.Claims.{claims_of, unfinished_of}
use Rattle.ps_valid.specs.Answers.{answer_of}
use Rattle.ps_runs.specs.declared.limits.Limits.{Limits}
use Rattle.ps_max_answer.specs.declared.answer.MaxAnswer.{MaxAnswer}
use Rattle.ps_max_commands.specs.Lines.{accepted_line}
use Rattle.ps_max_text.specs.Texts.{max_text}
use Rattle.ps_wcnf.specs.Readings.{IsRead}
use Rattle.ps_wcnf.specs.Splitting.{lines_of}
use Rattle.ps_wcnf.specs.declared.text.WcnfText.{WcnfText}
use Rattle.ps_commands.specs.declared.command.Command.{Command}
use Rattle.ps_commands.specs.declared.command.Command.TheVariants.{Check, CheckMaxSat, MaxSat, Solve}
use Rattle.ps_commands.specs.declared.command.TheConstants.{MOST_PROBLEM}
use Rattle.ps_messages.specs.declared.status.Status.{Status}
use Rattle.ps_messages.specs.declared.status.Status.TheVariants.{Done, NoMemory, Unfinished}
use Rattle.ps_commands.specs.Commands.{Spell, words_of}
use Rattle.ps_commands.specs.Due.{report_of}
use Rattle.ps_messages.specs.Lines.{accepted}
use Rattle.ps_commands.specs.RunLimits.{limits_for}
use Rattle.ps_commands.specs.Answering.{Ends, IsFaultless}

-- a run for words of this command, in which no call of its source or sink failed and memory didn't run out, was given this input,
-- wrote this text and ended with this status
pub record HasRun (command : Command) (input text : List ℕ) (status : Status) : Type 0 where
  pub words : List (String Global)
  pub spelled : Spell (words_of words) command
  pub old : Ends
  pub new : Ends
  pub faultless : IsFaultless words old new status
  pub remembered : status ≢ NoMemory
  pub input_is : old.source.bytes ≡ Some input
  pub before : List ℕ
  pub sink_is : old.sink.bytes ≡ Some before
  pub written : new.sink.bytes ≡ Some (before ++ text)

-- the text is the report of an answer, and the line accepts it, with its counts of claims and of what is open
pub record AcceptsReport (p : Parts) (report line : List ℕ) (status : Status) : Type 0 where
  pub answer : Answer
  pub report_is : report ≡ report_of answer
  pub line_is : line ≡ (accepted (length (claims_of p (answer_of answer))) (unfinished_of (answer_of answer))).text
  pub status_is : status ≡ Done

-- a text, a line feed and what a run wrote for it
abbrev pub behind_problem : List ℕ → List ℕ → List ℕ
behind_problem bytes report = bytes ++ (codes "\n" ++ report)

-- where nothing is open, or the pivots were fewer than the most, what a run of `solve` wrote is accepted by each run of `check`
-- that is given it behind its problem and is allowed so many bytes
abbrev pub SolvedRunsAreAccepted : Type 0
SolvedRunsAreAccepted = (limits : Limits) (enough : Bool) (most : ℕ) (bytes report line : List ℕ) (p : Parts)
    → (solved checked : Status)
    → SpellsWhole bytes p → length bytes ≤ MOST_PROBLEM → length (behind_problem bytes report) ≤ most
    → ((limits_for limits enough p).pivots < MOST_PIVOTS) ⊎ (solved ≢ Unfinished)
    → HasRun (Solve limits enough) bytes report solved
    → HasRun (Check most) (behind_problem bytes report) line checked
    → AcceptsReport p report line checked

-- the text is that of an answer about weighted clauses, and the line accepts it
pub record AcceptsAnswer (text line : List ℕ) (status : Status) : Type 0 where
  pub answer : MaxAnswer
  pub text_is : text ≡ max_text answer
  pub line_is : line ≡ (accepted_line answer).text
  pub status_is : status ≡ Done

-- what a run of `maxsat` wrote is accepted by each run of `check-maxsat` that is given it behind its clauses and is allowed so
-- many bytes
abbrev pub MaxRunsAreAccepted : Type 0
MaxRunsAreAccepted = (conflicts most : ℕ) (bytes text line : List ℕ) (t : WcnfText) (asked checked : Status)
    → IsRead (lines_of bytes) t → length bytes ≤ MOST_PROBLEM → length (behind_problem bytes text) ≤ most
    → HasRun (MaxSat conflicts) bytes text asked
    → HasRun (CheckMaxSat most) (behind_problem bytes text) line checked
    → AcceptsAnswer text line checked
