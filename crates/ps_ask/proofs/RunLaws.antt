-- What an answer to an input does where it has a reply.
use Rattle.std.proofs.Common.{◌≡◌, ℕ, Bool, List, ◌++◌, Option, refl, sym, subst}
use Rattle.std.specs.Prelude.{Result, Ok, Err}
use Rattle.ps_io.specs.Transfer.{Appends, AppendsPrefix}
use Rattle.ps_io.proofs.Bytes.{appends-then}
use Rattle.ps_io.proofs.CallerLemmas.{prefix-after}
use Rattle.ps_ask.specs.declared.settings.Settings.{Settings}
use Rattle.ps_ask.specs.declared.status.Status.{Status}
use Rattle.ps_ask.specs.declared.status.Status.TheVariants as status
use Rattle.ps_ask.specs.declared.reply.Reply.{Reply}
use Rattle.ps_ask.specs.declared.reply.ReplyError.{ReplyError}
use Rattle.ps_ask.specs.declared.reply.ReplyError.TheVariants as errors
use Rattle.ps_ask.specs.Statuses.{HasNoReport, HasText, IsSilent}
use Rattle.ps_ask.specs.Shown.{AsIsDue, Due, CountsReads, CountsReports, CountsWrites, Ends, IsDue, Output, Wrote, both}
use Rattle.ps_ask.specs.Replies.{CountsShown, Shows, IsDueAfter, last_of, output_after, report_by, status_of, status_without}
use Rattle.ps_ask.proofs.DueLaws.{has_text}

wrote_by : (s : Settings) (name bytes : List ℕ) (o : Output) (st : Status) (old new : Ends) → HasText st → IsDue s name bytes o → st ≡ o.status
    → Appends old.shown new.shown o.text → Appends old.report new.report o.report → Wrote s name bytes st old new
wrote_by s name bytes o status.ReadFault old new h d e a b = absurd h
wrote_by s name bytes o status.WriteFault old new h d e a b = absurd h
wrote_by s name bytes o status.ReportFault old new h d e a b = absurd h
wrote_by s name bytes o status.NoMemory old new h d e a b = absurd h
wrote_by s name bytes o st old new h d e a b = record { output = o; due = d; status_is = e; written = a; reported = b }

module _ (s : Settings) (name : List ℕ) (left : Option (List ℕ)) (r : Reply) (old between new : Option (List ℕ)) (shown : Shows s name left (Ok r) old between) where
  -- a reply was written whole
  pub reply_asked : (st : Status) (before after : Option (List ℕ)) → st ≡ status_of s.is_timed r → Appends between new (last_of s.is_timed r)
      → Appends before after (report_by s r) → Due s name left st (both old before) (both new after)
  reply_asked st before after e a b = record {
    wrote = λ bytes told.
        let h : IsDueAfter s name bytes old between r = shown.shown bytes told in
        let has : HasText st = subst HasText (sym e) (has_text s.is_timed r) in
        wrote_by s name bytes (output_after s h.begun r) st (both old before) (both new after) has h.due e
        (appends-then old between new h.begun (last_of s.is_timed r) h.written a) b;
  }

  -- a proper prefix of what is shown at the end was written
  pub reply_cut : (before : Option (List ℕ)) → AppendsPrefix between new (last_of s.is_timed r) → Due s name left status.WriteFault (both old before) (both new before)
  reply_cut before a = record {
    wrote = λ bytes told.
        let h : IsDueAfter s name bytes old between r = shown.shown bytes told in
        record {
          text = h.begun ++ last_of s.is_timed r;
          is = AsIsDue (output_after s h.begun r) h.due refl;
          written = prefix-after old between new h.begun (last_of s.is_timed r) h.written a;
          unreported = refl;
        };
  }

  -- a proper prefix of the report was written
  pub report_cut : (before after : Option (List ℕ)) → Appends between new (last_of s.is_timed r) → AppendsPrefix before after (report_by s r)
      → Due s name left status.ReportFault (both old before) (both new after)
  report_cut before after a b = record {
    wrote = λ bytes told.
        let h : IsDueAfter s name bytes old between r = shown.shown bytes told in
        record {
          output = output_after s h.begun r;
          due = h.due;
          written = appends-then old between new h.begun (last_of s.is_timed r) h.written a;
          reported = b;
        };
  }

-- there is no reply
pub none_asked : (s : Settings) (name : List ℕ) (left : Option (List ℕ)) (e : ReplyError) (old new before : Option (List ℕ)) → Shows s name left (Err e) old new
    → Due s name left (status_without e) (both old before) (both new before)
none_asked s name left errors.ReadFault old new before h = record { wrote = λ bytes told. λ i. both (h.shown bytes told i) before }
none_asked s name left errors.NoMemory old new before h = record {
  wrote = λ bytes told. let k = h.shown bytes told in record { text = k.text; is = k.is; written = k.written; unreported = refl };
}
none_asked s name left errors.WriteFault old new before h = record {
  wrote = λ bytes told. let k = h.shown bytes told in record { text = k.text; is = k.is; written = k.written; unreported = refl };
}

-- the status after a reply is none of a failure
not-silent : (s : Status) → HasText s → ¬ IsSilent s
not-silent status.ReadFault g h = g
not-silent s g h = absurd h

has-report : (s : Status) → HasText s → ¬ HasNoReport s
has-report status.ReadFault g h = g
has-report status.WriteFault g h = g
has-report status.NoMemory g h = g
has-report s g h = absurd h

writes-counted : (s : Status) (old new : ℕ) → HasText s → new ≡ old → CountsWrites old new s
writes-counted status.WriteFault old new g e = absurd g
writes-counted s old new g e = e

reports-counted : (s : Status) (old new : ℕ) → HasText s → new ≡ old → CountsReports old new s
reports-counted status.ReportFault old new g e = absurd g
reports-counted s old new g e = e

reads-counted : (s : Status) (old new : ℕ) → HasText s → CountsReads old new s → new ≡ old
reads-counted status.ReadFault old new g e = absurd g
reads-counted s old new g e = e

pub not_silent : (st : Status) (timed : Bool) (r : Reply) → st ≡ status_of timed r → ¬ IsSilent st
not_silent st timed r e = not-silent st (subst HasText (sym e) (has_text timed r))

pub has_report : (st : Status) (timed : Bool) (r : Reply) → st ≡ status_of timed r → ¬ HasNoReport st
has_report st timed r e = has-report st (subst HasText (sym e) (has_text timed r))

pub writes_counted : (st : Status) (timed : Bool) (r : Reply) (old new : ℕ) → st ≡ status_of timed r → new ≡ old → CountsWrites old new st
writes_counted st timed r old new e = writes-counted st old new (subst HasText (sym e) (has_text timed r))

pub reports_counted : (st : Status) (timed : Bool) (r : Reply) (old new : ℕ) → st ≡ status_of timed r → new ≡ old → CountsReports old new st
reports_counted st timed r old new e = reports-counted st old new (subst HasText (sym e) (has_text timed r))

pub reads_counted : (st : Status) (timed : Bool) (r : Reply) (old new : ℕ) → st ≡ status_of timed r → CountsReads old new (status_of timed r) → CountsReads old new st
reads_counted st timed r old new e h = subst (CountsReads old new) (sym e) h

pub reads_same : (timed : Bool) (r : Reply) (old new : ℕ) → CountsReads old new (status_of timed r) → new ≡ old
reads_same timed r old new h = reads-counted (status_of timed r) old new (has_text timed r) h

-- of a status without a reply
abbrev pub failed : ReplyError → Result Reply ReplyError
failed e = Err e

pub writes_without : (e : ReplyError) (old new : ℕ) → CountsShown (failed e) old new → CountsWrites old new (status_without e)
writes_without errors.ReadFault old new h = h
writes_without errors.NoMemory old new h = h
writes_without errors.WriteFault old new h = h

pub reports_without : (e : ReplyError) (o : ℕ) → CountsReports o o (status_without e)
reports_without errors.ReadFault o = refl
reports_without errors.NoMemory o = refl
reports_without errors.WriteFault o = refl

-- of these only a read that failed is silent
pub silent_read : (e : ReplyError) → IsSilent (status_without e) → e ≡ errors.ReadFault
silent_read errors.ReadFault h = refl
silent_read errors.NoMemory h = absurd h
silent_read errors.WriteFault h = absurd h
