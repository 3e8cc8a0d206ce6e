-- What is shown for the bytes of an input.
use Rattle.std.specs.Prelude.{◌≡◌, ◌⊎◌, ◌<◌, ◌≤◌, ℕ, pos, if◌then◌else◌, Bool, true, false, List, [], ◌++◌, length}
use Rattle.std.specs.Prelude.{Option, Some, None}
use Rattle.ps_io.specs.LineText.{lines_bytes}
use Rattle.ps_io.specs.Causes.{next_count}
use Rattle.ps_io.specs.Transfer.{Appends, AppendsPrefix}
use Rattle.ps_io.specs.declared.sink.Sink.{Ghosts}
use Rattle.ps_text.specs.Positions.{Position}
use Rattle.ps_text.specs.declared.kind.ReadKind.{ReadKind}
use Rattle.ps_read.specs.Readings.{SpellsWhole, IsUnreadWhole}
use Rattle.ps_problem.specs.Problems.{Parts}
use Rattle.ps_answer.specs.declared.answer.Answer.{Answer}
use Rattle.ps_answer.specs.declared.answer.Verdict.{Verdict}
use Rattle.ps_answer.specs.Answers.{answer_lines}
use Rattle.ps_generation.specs.Phases.{AreLimits}
use Rattle.ps_frac.specs.declared.limits.TheConstants.{MOST_DIGITS}
use Rattle.ps_spoken.specs.declared.clash.Clash.{Clash}
use Rattle.ps_spoken.specs.Clashes.{clash_text}
use Rattle.ps_spoken.specs.Objects.{Beside, object}
use Rattle.ps_spoken.specs.Unused.{unused_text}
use Rattle.ps_ask.specs.declared.answering.TheConstants.{MOST_PROBLEM}
use Rattle.ps_ask.specs.declared.settings.Settings.{Settings}
use Rattle.ps_ask.specs.declared.settings.Style.{Style}
use Rattle.ps_ask.specs.declared.settings.Style.TheVariants.{Words, Values, Exact, Json, Report}
use Rattle.ps_ask.specs.declared.sinks.Sinks.{Sinks}
use Rattle.ps_ask.specs.declared.status.Status.{Status}
use Rattle.ps_ask.specs.declared.status.Status.TheVariants.{Unreadable, ReadFault, WriteFault, ReportFault, NoMemory}
use Rattle.ps_ask.specs.Clashes.{IsClashAt}
use Rattle.ps_ask.specs.Details.{AreToldAsAsked}
use Rattle.ps_ask.specs.Fronts.{AreTrueAfter, IsBegunText, IsWhole, begun_text}
use Rattle.ps_ask.specs.Late.{is_late}
use Rattle.ps_ask.specs.Statuses.{open_in, status_after, status_number}
use Rattle.ps_ask.specs.Unused.{unused_for}

-- the limits are those of runs, and decimals have at least one digit and at most the most
pub record AreSettings (s : Settings) : Type 0 where
  pub limits : AreLimits s.limits
  pub some : 0 < s.digits
  pub few : s.digits ≤ MOST_DIGITS

-- the report of an answer; none where time was over before it was whole
abbrev pub report_of : Bool → Answer → List ℕ
report_of timed a = if is_late timed a then [] else lines_bytes false (answer_lines a)

-- which sentences clash, where some do
abbrev pub clash_words : Parts → List ℕ → Option Clash → List ℕ
clash_words p lines (Some c) = clash_text p lines c
clash_words p lines None = []

-- on which sentences no bound rests, where that is told
abbrev pub unused_words : Parts → List ℕ → Option (List ℕ) → List ℕ
unused_words p lines (Some ns) = unused_text p lines ns
unused_words p lines None = []

-- both
abbrev pub end_words : Parts → List ℕ → Option Clash → Option (List ℕ) → List ℕ
end_words p lines clash unused = clash_words p lines clash ++ unused_words p lines unused

-- what is shown at the end: which sentences clash and on which no bound rests, nothing, an object, or a report
abbrev pub last_text : Style → Bool → Parts → Answer → Beside → List ℕ
last_text Words timed p a t = end_words p t.lines t.clash t.unused
last_text Values timed p a t = []
last_text Exact timed p a t = []
last_text Json timed p a t = object p a t
last_text Report timed p a t = report_of timed a

-- an answer as it is shown: what is shown as it goes, and what is shown at the end
abbrev pub shown_by : Settings → Parts → Answer → Beside → List ℕ
shown_by s p a t = begun_text s.style s.digits p a t.details ++ last_text s.style s.is_timed p a t

-- sentences that clash are looked for where they are shown: in words and in an object
abbrev pub IsClashFor : Style → Settings → Parts → Verdict → Option Clash → Type 0
IsClashFor Words s p v clash = IsClashAt s p v clash
IsClashFor Json s p v clash = IsClashAt s p v clash
IsClashFor other s p v clash = clash ≡ None

-- this goes with an answer to a problem: the digits of the settings, the name of the file, how much is open, the
-- status, sentences that can't be met together and are each needed for it, where some clash and are shown, and where it is asked
-- for, the sentences on which no bound rests
pub record IsToldFor (s : Settings) (name : List ℕ) (p : Parts) (a : Answer) (t : Beside) : Type 0 where
  pub digits : t.digits ≡ s.digits
  pub file : t.file ≡ name
  pub unfinished : t.unfinished ≡ pos (open_in a)
  pub status : t.status ≡ status_number (status_after s.is_timed a)
  pub clash : IsClashFor s.style s p a.verdict t.clash
  pub unused : t.unused ≡ unused_for s.style s.tells_support p a.verdict t.details

-- the report beside what is shown, where it is wanted
abbrev pub wanted_report : Bool → Bool → Answer → List ℕ
wanted_report true timed a = report_of timed a
wanted_report false timed a = []

-- what is written: what is shown, the report beside it, and the status after them
pub record Output : Type 0 where
  pub text : List ℕ
  pub report : List ℕ
  pub status : Status

-- the output of an answer as it is shown
abbrev pub answer_output : Settings → Parts → Answer → Beside → Output
answer_output s p a t = record {
  text = shown_by s p a t;
  report = wanted_report s.reports s.is_timed a;
  status = status_after s.is_timed a;
}

-- the output for an input that is no problem
abbrev pub no_output : Output
no_output = record { text = []; report = []; status = Unreadable }

-- the output shows a whole answer to a problem: it is valid and right, and each part has its certificates or comes of a lawful
-- run, unless something is shown as not finished in time; and of each query it is told what was asked for, and that is true: a
-- value that is shown as reached is reached by some distribution that meets the sentences, a bound holds by the sentences alone
-- on which it is said to rest, and a distribution that is shown with it reaches it
pub record IsSolvedBy (s : Settings) (name : List ℕ) (p : Parts) (o : Output) : Type 0 where
  pub answer : Answer
  pub whole : IsWhole s p answer
  pub beside : Beside
  pub told : IsToldFor s name p answer beside
  pub details : AreTrueAfter p answer.verdict beside.details
  pub asked : AreToldAsAsked s answer.parts beside.details
  pub is : o ≡ answer_output s p answer beside

-- due for bytes under a name: an answer to the problem that they spell is shown; or nothing is, where they are no
-- problem or too many
pub data IsDue (s : Settings) (name bytes : List ℕ) (o : Output) : Type 0 where
  Shown : (p : Parts) (spells : SpellsWhole bytes p) (solved : IsSolvedBy s name p o) → IsDue s name bytes o
  NoProblem : (kind : ReadKind) (at : Position) (unread : IsUnreadWhole bytes kind at) (is : o ≡ no_output) → IsDue s name bytes o
  TooLong : (more : MOST_PROBLEM < length bytes) (is : o ≡ no_output) → IsDue s name bytes o

-- what is shown and reported so far, as far as the sinks tell
pub record Ends : Type 0 where
  pub shown : Option (List ℕ)
  pub report : Option (List ℕ)

abbrev pub both : Option (List ℕ) → Option (List ℕ) → Ends
both shown report = record { shown = shown; report = report }

-- an output that is due was written whole, and its status answered
pub record Answered (s : Settings) (name bytes : List ℕ) (status : Status) (old new : Ends) : Type 0 where
  pub output : Output
  pub due : IsDue s name bytes output
  pub status_is : status ≡ output.status
  pub written : Appends old.shown new.shown output.text
  pub reported : Appends old.report new.report output.report

-- a text that may be shown for bytes: that of an answer to the problem that they spell, as far as it goes, or what is due
pub data IsText (s : Settings) (name bytes text : List ℕ) : Type 0 where
  AsItGoes : (p : Parts) (spells : SpellsWhole bytes p) (begun : IsBegunText s p text) → IsText s name bytes text
  AsIsDue : (o : Output) (due : IsDue s name bytes o) (is : text ≡ o.text) → IsText s name bytes text

-- memory ran out behind such a text, or before any was shown; and there is no report
pub record Stopped (s : Settings) (name bytes : List ℕ) (old new : Ends) : Type 0 where
  pub text : List ℕ
  pub is : (text ≡ []) ⊎ IsText s name bytes text
  pub written : Appends old.shown new.shown text
  pub unreported : new.report ≡ old.report

-- a proper prefix of such a text was written, and no report
pub record Cut (s : Settings) (name bytes : List ℕ) (old new : Ends) : Type 0 where
  pub text : List ℕ
  pub is : IsText s name bytes text
  pub written : AppendsPrefix old.shown new.shown text
  pub unreported : new.report ≡ old.report

-- what is to be shown was written whole, and a proper prefix of the report
pub record CutReport (s : Settings) (name bytes : List ℕ) (old new : Ends) : Type 0 where
  pub output : Output
  pub due : IsDue s name bytes output
  pub written : Appends old.shown new.shown output.text
  pub reported : AppendsPrefix old.report new.report output.report

-- what was written for bytes, by the status
abbrev pub Wrote : Settings → List ℕ → List ℕ → Status → Ends → Ends → Type 0
Wrote s name bytes ReadFault old new = new ≡ old
Wrote s name bytes NoMemory old new = Stopped s name bytes old new
Wrote s name bytes WriteFault old new = Cut s name bytes old new
Wrote s name bytes ReportFault old new = CutReport s name bytes old new
Wrote s name bytes status old new = Answered s name bytes status old new

-- what two sinks tell
abbrev pub told_by : {O R : Type 0} → Ghosts O → Ghosts R → Sinks O R → Ends
told_by shown report sinks = both (shown.written sinks.shown) (report.written sinks.report)

-- a fact of what two sinks told before and after
abbrev pub On : {O R : Type 0} → Ghosts O → Ghosts R → Sinks O R → Sinks O R → (Ends → Ends → Type 0) → Type 0
On shown report old new P = P (told_by shown report old) (told_by shown report new)

-- whatever bytes the source told that it had left, what goes with them was written to sinks that told this before and that after
pub record Due (s : Settings) (name : List ℕ) (left : Option (List ℕ)) (status : Status) (old new : Ends) : Type 0 where
  pub wrote : (bytes : List ℕ) → left ≡ Some bytes → Wrote s name bytes status old new

-- a source's count of faults rises by one at a read fault, and else stays as it was
abbrev pub CountsReads : ℕ → ℕ → Status → Type 0
CountsReads old new ReadFault = new ≡ next_count old
CountsReads old new status = new ≡ old

-- the same of a sink's and a write fault
abbrev pub CountsWrites : ℕ → ℕ → Status → Type 0
CountsWrites old new WriteFault = new ≡ next_count old
CountsWrites old new status = new ≡ old

-- the same of the other sink's and a fault of the report
abbrev pub CountsReports : ℕ → ℕ → Status → Type 0
CountsReports old new ReportFault = new ≡ next_count old
CountsReports old new status = new ≡ old
