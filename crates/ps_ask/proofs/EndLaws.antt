-- Texts that are written one after the other, and where they end early.
use Rattle.std.proofs.Common.{◌≡◌, ◌∙◌, ℕ, List, [], ◌++◌, Option, Some, None, refl, sym, ap, append-nil, inl, inr, subst}
use Rattle.std.specs.Prelude.{◌⊎◌}
use Rattle.ps_io.specs.Transfer.{Appends}
use Rattle.ps_io.proofs.Bytes.{appends-then}
use Rattle.ps_io.proofs.CallerLemmas.{prefix-after}
use Rattle.ps_ask.specs.declared.reply.ReplyError.{ReplyError}
use Rattle.ps_ask.specs.declared.reply.ReplyError.TheVariants as errors
use Rattle.ps_problem.specs.declared.query.Query.{Query}
use Rattle.ps_problem.specs.Problems.{Parts}
use Rattle.ps_table.specs.declared.event.Event.{Event}
use Rattle.ps_answer.specs.declared.answer.QueryPart.{QueryPart}
use Rattle.ps_answer.specs.declared.answer.Verdict.{Verdict}
use Rattle.ps_spoken.specs.declared.details.Details.{Details}
use Rattle.ps_ask.specs.Details.{IsToldAsAsked, IsTrueOf}
use Rattle.ps_ask.specs.declared.settings.Settings.{Settings}
use Rattle.ps_ask.specs.Fronts.{IsShownPart, IsShownVerdict, part_piece, verdict_piece}
use Rattle.ps_ask.specs.Replies.{Ended, IsCut, IsPiece, IsVerdictPiece, WroteSome}

pub nothing_appended : (o : Option (List ℕ)) → Appends o o []
nothing_appended None = refl
nothing_appended (Some xs) = ap Some (sym (append-nil xs))

-- memory ran out before anything was written
pub nothing_ended : (Is : List ℕ → Type 0) (o : Option (List ℕ)) → Ended Is errors.NoMemory o o
nothing_ended Is o = record { text = []; is = inl refl; written = nothing_appended o }

-- memory ran out behind a text
pub some_ended : (Is : List ℕ → Type 0) (old new : Option (List ℕ)) (text : List ℕ) → Is text → Appends old new text → Ended Is errors.NoMemory old new
some_ended Is old new text is a = record { text = text; is = inr is; written = a }

-- a text was cut off
pub cut_ended : (Is : List ℕ → Type 0) (e : ReplyError) (old new : Option (List ℕ)) (text : List ℕ) → IsCut e old new text → Is text → Ended Is e old new
cut_ended Is errors.ReadFault old new text c is = absurd c
cut_ended Is errors.NoMemory old new text c is = absurd c
cut_ended Is errors.WriteFault old new text c is = record { text = text; is = is; written = c }

-- behind a text, others ended early
pub ended_after : (Is All : List ℕ → Type 0) (e : ReplyError) (old between new : Option (List ℕ)) (front : List ℕ) → Appends old between front → All front
    → ((text : List ℕ) → Is text → All (front ++ text)) → Ended Is e between new → Ended All e old new
ended_after Is All errors.ReadFault old between new front a whole more h = absurd h
ended_after Is All errors.NoMemory old between new front a whole more h = some_after h.is
  where
    some_after : (h.text ≡ []) ⊎ Is h.text → WroteSome All old new
    some_after (inl none) = record {
      text = front ++ h.text;
      is = inr (subst All (sym (append-nil front) ∙ ap (λ t. front ++ t) (sym none)) whole);
      written = appends-then old between new front h.text a h.written;
    }
    some_after (inr is) = record {
      text = front ++ h.text;
      is = inr (more h.text is);
      written = appends-then old between new front h.text a h.written;
    }
ended_after Is All errors.WriteFault old between new front a whole more h = record {
  text = front ++ h.text;
  is = more h.text h.is;
  written = prefix-after old between new front h.text a h.written;
}

-- all that may have been begun may be shown
pub ended_as : (Is All : List ℕ → Type 0) (e : ReplyError) (old new : Option (List ℕ)) → ((text : List ℕ) → Is text → All text) → Ended Is e old new → Ended All e old new
ended_as Is All errors.ReadFault old new more h = absurd h
ended_as Is All errors.NoMemory old new more h = record { text = h.text; is = also h.is; written = h.written }
  where
    also : (h.text ≡ []) ⊎ Is h.text → (h.text ≡ []) ⊎ All h.text
    also (inl none) = inl none
    also (inr is) = inr (more h.text is)
ended_as Is All errors.WriteFault old new more h = record { text = h.text; is = more h.text h.is; written = h.written }

-- a piece was cut off
pub verdict_cut : (s : Settings) (p : Parts) (v : Verdict) (events : List Event) (e : ReplyError) (old new : Option (List ℕ)) (text : List ℕ) → IsShownVerdict s p v events
    → text ≡ verdict_piece s.style v → IsCut e old new text → Ended (IsVerdictPiece s p) e old new
verdict_cut s p v events e old new text is same c =
    cut_ended (IsVerdictPiece s p) e old new text c (record { verdict = v; events = events; shown = is; is = same })

pub part_cut : (s : Settings) (p : Parts) (q : Query) (part : QueryPart) (r : Details) (e : ReplyError) (old new : Option (List ℕ)) (text : List ℕ) → IsShownPart s p q part
    → IsTrueOf p q r → IsToldAsAsked s part r → text ≡ part_piece s.style s.digits p q part r → IsCut e old new text → Ended (IsPiece s p q) e old new
part_cut s p q part r e old new text is told asked same c =
    cut_ended (IsPiece s p q) e old new text c (record { part = part; details = r; shown = is; told = told; asked = asked; is = same })
