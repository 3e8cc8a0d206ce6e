-- What a reply stands for, and what was written before it.
use Rattle.std.specs.Prelude.{◌≡◌, ◌⊎◌, ℕ, Bool, false, List, [], ◌++◌, length, take, Option, Some, Result, Ok, Err, IfOk, IfErr}
use Rattle.ps_io.specs.Causes.{next_count}
use Rattle.ps_io.specs.Transfer.{Appends, AppendsPrefix, Writes}
use Rattle.ps_io.specs.declared.sink.Sink.{Ghosts}
use Rattle.ps_io.specs.declared.source.Source as sources
use Rattle.ps_runs.specs.Verdicts.{asked_after}
use Rattle.ps_answer.specs.declared.answer.Answer.{Answer}
use Rattle.ps_answer.specs.declared.answer.QueryPart.{QueryPart}
use Rattle.ps_answer.specs.declared.answer.Verdict.{Verdict}
use Rattle.ps_table.specs.declared.event.Event.{Event}
use Rattle.ps_problem.specs.declared.query.Query.{Query}
use Rattle.ps_problem.specs.Problems.{Parts}
use Rattle.ps_query.specs.Solutions.{AreShortLines}
use Rattle.ps_spoken.specs.Objects.{Beside}
use Rattle.ps_spoken.specs.declared.details.Details.{Details}
use Rattle.ps_ask.specs.Details.{AreToldAsAsked, IsToldAsAsked, IsTrueOf}
use Rattle.ps_ask.specs.declared.notes.Input.{Input}
use Rattle.ps_ask.specs.declared.settings.Settings.{Settings}
use Rattle.ps_ask.specs.declared.status.Status.{Status}
use Rattle.ps_ask.specs.declared.status.Status.TheVariants as statuses
use Rattle.ps_ask.specs.declared.reply.Reply.{Reply}
use Rattle.ps_ask.specs.declared.reply.Reply.TheVariants.{Nothing, Text, Report}
use Rattle.ps_ask.specs.declared.reply.ReplyError.{ReplyError}
use Rattle.ps_ask.specs.declared.reply.ReplyError.TheVariants as errors
use Rattle.ps_ask.specs.Late.{is_late}
use Rattle.ps_ask.specs.Statuses.{status_after}
use Rattle.ps_ask.specs.Fronts.{AreShownParts, AreTrueTo, IsShownPart, IsShownVerdict, part_piece, parts_pieces, verdict_piece}
use Rattle.ps_ask.specs.Shown.{CountsReads, IsDue, IsSolvedBy, IsText, IsToldFor, Output, last_text, report_of, wanted_report}

-- ---- replies
-- what is shown at the end, by a reply
abbrev pub last_of : Bool → Reply → List ℕ
last_of timed Nothing = []
last_of timed (Text a text) = text.items
last_of timed (Report a) = report_of timed a

-- the report that goes beside it, where one is wanted
abbrev pub report_by : Settings → Reply → List ℕ
report_by s Nothing = []
report_by s (Text a text) = wanted_report s.reports s.is_timed a
report_by s (Report a) = wanted_report s.reports s.is_timed a

-- the status after it
abbrev pub status_of : Bool → Reply → Status
status_of timed Nothing = statuses.Unreadable
status_of timed (Text a text) = status_after timed a
status_of timed (Report a) = status_after timed a

-- the output of a reply, behind what was shown before it
abbrev pub output_after : Settings → List ℕ → Reply → Output
output_after s begun r = record {
  text = begun ++ last_of s.is_timed r;
  report = report_by s r;
  status = status_of s.is_timed r;
}

-- each line of an answer's report is short enough to be written, unless time was over
abbrev pub AreShortInTime : Bool → Answer → Type 0
AreShortInTime timed a = is_late timed a ≡ false → AreShortLines a

-- so is each line of a reply's
abbrev pub IsShort : Bool → Reply → Type 0
IsShort timed Nothing = Unit {0}
IsShort timed (Text a text) = AreShortInTime timed a
IsShort timed (Report a) = AreShortInTime timed a

-- the answer of a reply is this
abbrev pub IsOf : Answer → Reply → Type 0
IsOf a Nothing = ⊥
IsOf a (Text b text) = b ≡ a
IsOf a (Report b) = b ≡ a

-- the reply shows the end of this answer to a problem, in the style of the settings, beside what is told of each query
pub record IsShownFor (s : Settings) (name : List ℕ) (p : Parts) (a : Answer) (ts : List Details) (r : Reply)
    : Type 0 where
  pub beside : Beside
  pub told : IsToldFor s name p a beside
  pub details_is : beside.details ≡ ts
  pub last_is : last_of s.is_timed r ≡ last_text s.style s.is_timed p a beside
  pub answer_is : IsOf a r

-- the status that takes the place of a reply's, by why there is none
abbrev pub status_without : ReplyError → Status
status_without errors.ReadFault = statuses.ReadFault
status_without errors.WriteFault = statuses.WriteFault
status_without errors.NoMemory = statuses.NoMemory

-- the status that goes with a reply, or takes its place
abbrev pub status_with : Bool → Result Reply ReplyError → Status
status_with timed (Ok r) = status_of timed r
status_with timed (Err e) = status_without e

-- ---- what was written before
-- a count of faults rises by one at a write fault, and else stays as it was
abbrev pub CountsShown : {T : Type 0} → Result T ReplyError → ℕ → ℕ → Type 0
CountsShown (Ok x) old new = new ≡ old
CountsShown (Err errors.ReadFault) old new = new ≡ old
CountsShown (Err errors.NoMemory) old new = new ≡ old
CountsShown (Err errors.WriteFault) old new = new ≡ next_count old

-- some text was written whole, or none
pub record WroteSome (Is : List ℕ → Type 0) (old new : Option (List ℕ)) : Type 0 where
  pub text : List ℕ
  pub is : (text ≡ []) ⊎ Is text
  pub written : Appends old new text

-- a proper prefix of some text was written
pub record WroteFront (Is : List ℕ → Type 0) (old new : Option (List ℕ)) : Type 0 where
  pub text : List ℕ
  pub is : Is text
  pub written : AppendsPrefix old new text

-- a proper prefix of this text was written, since a write failed
abbrev pub IsCut : ReplyError → Option (List ℕ) → Option (List ℕ) → List ℕ → Type 0
IsCut errors.ReadFault old new text = ⊥
IsCut errors.NoMemory old new text = ⊥
IsCut errors.WriteFault old new text = AppendsPrefix old new text

-- what was written where texts ended early: some of them, where memory ran out, or the front of some, where a write failed
abbrev pub Ended : (List ℕ → Type 0) → ReplyError → Option (List ℕ) → Option (List ℕ) → Type 0
Ended Is errors.ReadFault old new = ⊥
Ended Is errors.NoMemory old new = WroteSome Is old new
Ended Is errors.WriteFault old new = WroteFront Is old new

-- the piece of a verdict that is shown
pub record IsVerdictPiece (s : Settings) (p : Parts) (text : List ℕ) : Type 0 where
  pub verdict : Verdict
  pub events : List Event
  pub shown : IsShownVerdict s p verdict events
  pub is : text ≡ verdict_piece s.style verdict

-- the piece of a part that is shown for a query, with what is told of it
pub record IsPiece (s : Settings) (p : Parts) (q : Query) (text : List ℕ) : Type 0 where
  pub part : QueryPart
  pub details : Details
  pub shown : IsShownPart s p q part
  pub told : IsTrueOf p q details
  pub asked : IsToldAsAsked s part details
  pub is : text ≡ part_piece s.style s.digits p q part details

-- the pieces of parts that are shown for the first of these queries, with what is told of each
pub record ArePiecesFor (s : Settings) (p : Parts) (qs : List Query) (text : List ℕ) : Type 0 where
  pub parts : List QueryPart
  pub details : List Details
  pub shown : AreShownParts s p (take (length parts) qs) parts
  pub told : AreTrueTo p qs (length parts) details
  pub asked : AreToldAsAsked s parts details
  pub is : text ≡ parts_pieces s.style s.digits p parts details

-- ---- what is due behind it
-- behind what was shown of a whole answer to the problem, the reply is its end
pub record IsSolvedAfter (s : Settings) (name : List ℕ) (p : Parts) (old new : Option (List ℕ)) (r : Reply) : Type 0 where
  pub begun : List ℕ
  pub written : Appends old new begun
  pub solved : IsSolvedBy s name p (output_after s begun r)

-- behind what was shown, the reply is the end of what is due for bytes
pub record IsDueAfter (s : Settings) (name bytes : List ℕ) (old new : Option (List ℕ)) (r : Reply) : Type 0 where
  pub begun : List ℕ
  pub written : Appends old new begun
  pub due : IsDue s name bytes (output_after s begun r)

-- what was shown for bytes, by the reply or by why there is none
abbrev pub HasShown : Settings → List ℕ → List ℕ → Result Reply ReplyError → Option (List ℕ) → Option (List ℕ) → Type 0
HasShown s name bytes (Ok r) old new = IsDueAfter s name bytes old new r
HasShown s name bytes (Err errors.ReadFault) old new = new ≡ old
HasShown s name bytes (Err errors.NoMemory) old new = WroteSome (IsText s name bytes) old new
HasShown s name bytes (Err errors.WriteFault) old new = WroteFront (IsText s name bytes) old new

-- that was shown for whatever the source told that it had left
pub record Shows (s : Settings) (name : List ℕ) (left : Option (List ℕ)) (result : Result Reply ReplyError)
    (old new : Option (List ℕ)) : Type 0 where
  pub shown : (bytes : List ℕ) → left ≡ Some bytes → HasShown s name bytes result old new

-- ---- the same, as two states of a sink tell
-- a fact of what a sink told before and after
abbrev pub Tells : {O : Type 0} → Ghosts O → O → O → (Option (List ℕ) → Option (List ℕ) → Type 0) → Type 0
Tells sink old new P = P (sink.written old) (sink.written new)

-- the text of a thing was written
abbrev pub Adds : {O X : Type 0} → Ghosts O → O → O → (X → List ℕ) → X → Type 0
Adds sink old new text x = Appends (sink.written old) (sink.written new) (text x)

-- a text was written, or a proper prefix of it
abbrev pub WritesTo : {O E : Type 0} → Ghosts O → O → O → Result (Unit {0}) E → List ℕ → Type 0
WritesTo sink old new result text = Writes result (sink.written old) (sink.written new) text

-- where there is an error, texts stopped early
abbrev pub Stops : {O T : Type 0} → Ghosts O → O → O → (List ℕ → Type 0) → Result T ReplyError → Type 0
Stops sink old new Is result = IfErr result (λ e. Ended Is e (sink.written old) (sink.written new))

-- the pieces of parts for the first queries of a problem
abbrev pub AreAllPieces : Settings → Parts → List ℕ → Type 0
AreAllPieces s p text = ArePiecesFor s p p.queries text

-- the pieces of parts for the first of the queries that are asked behind a verdict
abbrev pub ArePieces : Settings → Parts → Verdict → List ℕ → Type 0
ArePieces s p v text = ArePiecesFor s p (asked_after v p.queries) text

-- behind what was shown of a whole answer a reply is its end
abbrev pub Solves : Settings → Input → Parts → Result Reply ReplyError → Option (List ℕ) → Option (List ℕ) → Type 0
Solves s input p result old new = IfOk result (IsSolvedAfter s input.name.now p old new)

-- what was shown for the bytes of an input
abbrev pub ShowsFor : Settings → Input → Result Reply ReplyError → Option (List ℕ) → Option (List ℕ) → Type 0
ShowsFor s input result old new = HasShown s input.name.now input.bytes.now result old new

-- the count of a source's faults rises by one at a read that failed
abbrev pub CountsReadsBy : {I : Type 0} → sources.Ghosts I → I → I → Bool → Result Reply ReplyError → Type 0
CountsReadsBy from old new timed result = CountsReads (from.faults old) (from.faults new) (status_with timed result)
