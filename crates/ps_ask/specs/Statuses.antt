-- Statuses: their numbers, and the one that goes with an answer.
use Rattle.std.specs.Prelude.{ℕ, zero, suc, Bool, if◌then◌else◌}
use Rattle.ps_answer.specs.declared.answer.Answer.{Answer}
use Rattle.ps_answer.specs.declared.answer.Verdict.{Verdict}
use Rattle.ps_answer.specs.declared.answer.Verdict.TheVariants as answer
use Rattle.ps_claims.specs.Claims.{unfinished_of}
use Rattle.ps_valid.specs.Answers.{answer_of}
use Rattle.ps_ask.specs.declared.status.Status.{Status}
use Rattle.ps_ask.specs.declared.status.Status.TheVariants.{Done, Inconsistent, Unreadable, Unfinished, Late}
use Rattle.ps_ask.specs.declared.status.Status.TheVariants.{ReadFault, WriteFault, ReportFault, NoMemory}
use Rattle.ps_ask.specs.Late.{is_late}

-- the number of a status, which is the exit code
abbrev pub status_number : Status → ℕ
status_number Done = 0
status_number Inconsistent = 1
status_number Unreadable = 3
status_number Unfinished = 4
status_number Late = 4
status_number ReadFault = 5
status_number WriteFault = 6
status_number ReportFault = 6
status_number NoMemory = 7

-- the status after a verdict, where so much is open
abbrev pub status_by : Verdict → ℕ → Status
status_by (answer.Inconsistent d) n = Inconsistent
status_by other zero = Done
status_by other (suc n) = Unfinished

-- how much is open in an answer
abbrev pub open_in : Answer → ℕ
open_in a = unfinished_of (answer_of a)

-- the status after an answer: time was over before it was whole, or what its verdict and all that is open come to
abbrev pub status_after : Bool → Answer → Status
status_after timed a = if is_late timed a then Late else status_by a.verdict (open_in a)

-- a status that goes with an output
abbrev pub HasText : Status → Type 0
HasText ReadFault = ⊥
HasText WriteFault = ⊥
HasText ReportFault = ⊥
HasText NoMemory = ⊥
HasText status = Unit {0}

-- a status with which nothing is written
abbrev pub IsSilent : Status → Type 0
IsSilent ReadFault = Unit {0}
IsSilent other = ⊥

-- a status with which no report is written beside what is shown
abbrev pub HasNoReport : Status → Type 0
HasNoReport ReadFault = Unit {0}
HasNoReport WriteFault = Unit {0}
HasNoReport NoMemory = Unit {0}
HasNoReport other = ⊥
