-- What is due for what was read and answered.
use Rattle.std.proofs.Common.{◌≡◌, ◌≢◌, ◌+◌, ◌<◌, ℕ, zero, suc, Bool, true, false, List, [], ◌++◌, length, Option, Some, None, Ok, Err, IfOk, sym, refl, ap, subst, ◌∙◌, append-nil, length-append, arith}
use Rattle.std.specs.Prelude.{Result, IfErr, if◌then◌else◌}
use Rattle.ps_io.specs.Transfer.{Appends, ReadAll, TookMore}
use Rattle.ps_problem.specs.Problems.{Parts}
use Rattle.ps_answer.specs.declared.answer.Answer.{Answer}
use Rattle.ps_answer.specs.declared.answer.Verdict.{Verdict}
use Rattle.ps_answer.specs.declared.answer.Verdict.TheVariants as verdict
use Rattle.ps_text.specs.declared.kind.ReadKind.{ReadKind}
use Rattle.ps_read.specs.declared.read_error.ReadError.{ReadError}
use Rattle.ps_read.specs.declared.read_error.ReadError.TheVariants as unread
use Rattle.ps_read.specs.Readings.{SpellsWhole, IsUnreadWhole}
use Rattle.ps_read.specs.Reads.{Tells}
use Rattle.ps_spoken.specs.Objects.{Beside}
use Rattle.ps_spoken.specs.declared.details.Details.{Details}
use Rattle.ps_ask.specs.declared.answering.TheConstants.{MOST_PROBLEM}
use Rattle.ps_ask.specs.declared.settings.Settings.{Settings}
use Rattle.ps_ask.specs.declared.status.Status.{Status}
use Rattle.ps_ask.specs.declared.status.Status.TheVariants as status
use Rattle.ps_ask.specs.declared.reply.Reply.{Reply}
use Rattle.ps_ask.specs.declared.reply.Reply.TheVariants.{Nothing, Text, Report}
use Rattle.ps_ask.specs.declared.reply.ReplyError.{ReplyError}
use Rattle.ps_ask.specs.declared.reply.ReplyError.TheVariants as errors
use Rattle.ps_ask.specs.Late.{is_late}
use Rattle.ps_ask.specs.Statuses.{HasText, status_after, status_by}
use Rattle.ps_ask.specs.Details.{AreToldAsAsked}
use Rattle.ps_ask.specs.Fronts.{AreTrueAfter, IsBegunText, IsWhole, begun_text}
use Rattle.ps_ask.specs.Shown.{AsItGoes, CountsReads, IsText, Shown, NoProblem, TooLong, answer_output, last_text, wanted_report}
use Rattle.ps_ask.specs.Replies.{AreShortInTime, Ended, HasShown, Shows, IsDueAfter, IsOf, IsShort, IsShownFor, IsSolvedAfter, last_of, output_after, report_by, status_of, status_with}
use Rattle.ps_ask.proofs.EndLaws.{ended_as, nothing_appended, nothing_ended}

report-is : (s : Settings) (a : Answer) (r : Reply) → IsOf a r → report_by s r ≡ wanted_report s.reports s.is_timed a
report-is s a Nothing h = absurd h
report-is s a (Text b text) h = ap (wanted_report s.reports s.is_timed) h
report-is s a (Report b) h = ap (wanted_report s.reports s.is_timed) h

status-is : (timed : Bool) (a : Answer) (r : Reply) → IsOf a r → status_of timed r ≡ status_after timed a
status-is timed a Nothing h = absurd h
status-is timed a (Text b text) h = ap (status_after timed) h
status-is timed a (Report b) h = ap (status_after timed) h

short-is : (timed : Bool) (a : Answer) (r : Reply) → IsOf a r → AreShortInTime timed a → IsShort timed r
short-is timed a Nothing h k = absurd h
short-is timed a (Text b text) h k = subst (AreShortInTime timed) (sym h) k
short-is timed a (Report b) h k = subst (AreShortInTime timed) (sym h) k

output-is : (s : Settings) (p : Parts) (a : Answer) (r : Reply) (t : Beside) → last_of s.is_timed r ≡ last_text s.style s.is_timed p a t → IsOf a r
    → output_after s (begun_text s.style s.digits p a t.details) r ≡ answer_output s p a t
output-is s p a r t e h =
    let reported = report-is s a r h in
    let ends = status-is s.is_timed a r h in
    λ i. record { text = begun_text s.style s.digits p a t.details ++ e i; report = reported i; status = ends i }

pub solved_after : (s : Settings) (name : List ℕ) (p : Parts) (a : Answer) (rs : List Details) (r : Reply) (old new : Option (List ℕ)) → IsWhole s p a → AreTrueAfter p a.verdict rs
    → AreToldAsAsked s a.parts rs → Appends old new (begun_text s.style s.digits p a rs) → IsShownFor s name p a rs r → IsSolvedAfter s name p old new r
solved_after s name p a rs r old new h told asked w k = record {
  begun = begun_text s.style s.digits p a k.beside.details;
  written = subst (λ (x : List Details). Appends old new (begun_text s.style s.digits p a x)) (sym k.details_is) w;
  solved = record {
    answer = a;
    whole = h;
    beside = k.beside;
    told = k.told;
    details = subst (AreTrueAfter p a.verdict) (sym k.details_is) told;
    asked = subst (AreToldAsAsked s a.parts) (sym k.details_is) asked;
    is = output-is s p a r k.beside k.last_is k.answer_is;
  };
}

pub short_after : (s : Settings) (name : List ℕ) (p : Parts) (a : Answer) (rs : List Details) (r : Reply) → AreShortInTime s.is_timed a → IsShownFor s name p a rs r → IsShort s.is_timed r
short_after s name p a rs r h k = short-is s.is_timed a r k.answer_is h

-- a status that goes with an output
text-with : (v : Verdict) (n : ℕ) → HasText (status_by v n)
text-with (verdict.Inconsistent d) n = tt
text-with (verdict.Consistent m) zero = tt
text-with (verdict.Consistent m) (suc n) = tt
text-with (verdict.Open c) zero = tt
text-with (verdict.Open c) (suc n) = tt

text-late : (late : Bool) (v : Verdict) (n : ℕ) → HasText (if late then status.Late else status_by v n)
text-late true v n = tt
text-late false v n = text-with v n

text-after : (timed : Bool) (a : Answer) → HasText (status_after timed a)
text-after timed a = text-late (is_late timed a) a.verdict _

pub has_text : (timed : Bool) (r : Reply) → HasText (status_of timed r)
has_text timed Nothing = tt
has_text timed (Text a text) = text-after timed a
has_text timed (Report a) = text-after timed a

-- with a reply no read failed
reads-kept : (s : Status) (old new : ℕ) → HasText s → new ≡ old → CountsReads old new s
reads-kept status.ReadFault old new g e = absurd g
reads-kept s old new g e = e

-- but for a read that failed, the count of a source stays as it was
pub reads_counted_by : (timed : Bool) (r : Result Reply ReplyError) (old new : ℕ) → r ≢ Err errors.ReadFault → new ≡ old → CountsReads old new (status_with timed r)
reads_counted_by timed (Ok r) old new none e = reads-kept (status_of timed r) old new (has_text timed r) e
reads_counted_by timed (Err errors.ReadFault) old new none e = absurd (none refl)
reads_counted_by timed (Err errors.WriteFault) old new none e = e
reads_counted_by timed (Err errors.NoMemory) old new none e = e

-- where a problem was answered no read failed
pub not_read : (Is : List ℕ → Type 0) (r : Result Reply ReplyError) (old new : Option (List ℕ)) → IfErr r (λ e. Ended Is e old new) → r ≢ Err errors.ReadFault
not_read Is (Ok r) old new h e = absurd (cc)
not_read Is (Err errors.ReadFault) old new h e = h
not_read Is (Err errors.WriteFault) old new h e = absurd (cc)
not_read Is (Err errors.NoMemory) old new h e = absurd (cc)

-- what was shown for bytes that spell the problem
pub shown_for : (s : Settings) (name : List ℕ) (p : Parts) (bytes : List ℕ) (r : Result Reply ReplyError) (old new : Option (List ℕ)) → SpellsWhole bytes p
    → IfOk r (IsSolvedAfter s name p old new) → IfErr r (λ e. Ended (IsBegunText s p) e old new) → HasShown s name bytes r old new
shown_for s name p bytes (Ok r) old new spells h k = record { begun = h.begun; written = h.written; due = Shown p spells h.solved }
shown_for s name p bytes (Err errors.ReadFault) old new spells h k = absurd k
shown_for s name p bytes (Err errors.NoMemory) old new spells h k =
    ended_as (IsBegunText s p) (IsText s name bytes) errors.NoMemory old new (λ text is. AsItGoes p spells is) k
shown_for s name p bytes (Err errors.WriteFault) old new spells h k =
    ended_as (IsBegunText s p) (IsText s name bytes) errors.WriteFault old new (λ text is. AsItGoes p spells is) k

-- nothing is shown for bytes that aren't read
pub unread_shown : (s : Settings) (name bytes : List ℕ) (e : ReadError) (kind : ReadKind) (l k : ℕ) (o : Option (List ℕ)) → e ≡ unread.At kind l k → Tells (IsUnreadWhole bytes) e
    → IsDueAfter s name bytes o o Nothing
unread_shown s name bytes e kind l k o is told = let at = rw is at told in record {
  begun = [];
  written = nothing_appended o;
  due = NoProblem kind (record { line = l; column = k }) at refl;
}

-- what is told against bytes is so
pub unread_at : (bytes : List ℕ) (e : ReadError) (kind : ReadKind) (l k : ℕ) → e ≡ unread.At kind l k → Tells (IsUnreadWhole bytes) e
    → IsUnreadWhole bytes kind (record { line = l; column = k })
unread_at bytes e kind l k is told = rw is at told

-- all bytes that were left were taken
pub whole-is : (most : ℕ) (old new : Option (List ℕ)) (taken bytes : List ℕ) → ReadAll most old new taken → old ≡ Some bytes → taken ≡ bytes
whole-is most None new taken bytes h e = absurd (cc)
whole-is most (Some xs) None taken bytes h e = absurd h.consumed
whole-is most (Some xs) (Some ys) taken bytes h e =
    let all : xs ≡ taken ++ ys = h.consumed in
    let none : ys ≡ [] = h.at_end in
    let same : xs ≡ bytes = cc in
    sym (append-nil taken) ∙ ap (λ r. taken ++ r) (sym none) ∙ sym all ∙ same

pub input_shown : (s : Settings) (name : List ℕ) (limit : ℕ) (left after : Option (List ℕ)) (taken given : List ℕ) (r : Result Reply ReplyError) (old new : Option (List ℕ))
    → ReadAll limit left after taken → given ≡ taken → HasShown s name given r old new → Shows s name left r old new
input_shown s name limit left after taken given r old new h same shown = record {
  shown = λ bytes told.
      let is : taken ≡ bytes = whole-is limit left after taken bytes h told in
      subst (λ (x : List ℕ). HasShown s name x r old new) (same ∙ is) shown;
}

-- where a read failed, or memory ran out before, nothing was shown
pub nothing_read : (s : Settings) (name : List ℕ) (left : Option (List ℕ)) (o : Option (List ℕ)) → Shows s name left (Err errors.ReadFault) o o
nothing_read s name left o = record { shown = λ bytes told. refl }

pub nothing_kept : (s : Settings) (name : List ℕ) (left : Option (List ℕ)) (o : Option (List ℕ)) → Shows s name left (Err errors.NoMemory) o o
nothing_kept s name left o = record { shown = λ bytes told. nothing_ended (IsText s name bytes) o }

-- where more than the limit was taken, there was more
pub more_is : (limit : ℕ) (xs : List ℕ) (new : Option (List ℕ)) → TookMore limit (Some xs) new → limit < length xs
more_is limit xs None h = absurd h.consumed
more_is limit xs (Some ys) h =
    let all : length xs ≡ length h.taken + length ys = ap length h.consumed ∙ length-append h.taken ys in
    omega (arith, h.more)

pub long_shown : (s : Settings) (name : List ℕ) (left after o : Option (List ℕ)) → TookMore MOST_PROBLEM left after → Shows s name left (Ok Nothing) o o
long_shown s name left after o h = record {
  shown = λ bytes told. record {
    begun = [];
    written = nothing_appended o;
    due = TooLong (more_is MOST_PROBLEM bytes after (rw told at h)) refl;
  };
}
