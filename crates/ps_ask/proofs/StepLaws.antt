-- The pieces of an answer, one after the other.
use Rattle.std.proofs.Common.{◌≡◌, ℕ, List, [], Option, refl, sym, subst}
use Rattle.std.specs.Prelude.{Result}
use Rattle.ps_io.specs.Transfer.{Appends}
use Rattle.ps_io.proofs.Bytes.{appends-then}
use Rattle.ps_problem.specs.Problems.{Parts}
use Rattle.ps_table.specs.declared.event.Event.{Event}
use Rattle.ps_runs.specs.Verdicts.{asked_after}
use Rattle.ps_answer.specs.declared.answer.QueryPart.{QueryPart}
use Rattle.ps_answer.specs.declared.answer.Verdict.{Verdict}
use Rattle.ps_spoken.specs.declared.details.Details.{Details}
use Rattle.ps_ask.specs.declared.settings.Settings.{Settings}
use Rattle.ps_ask.specs.declared.settings.Style.{Style}
use Rattle.ps_ask.specs.declared.reply.ReplyError.{ReplyError}
use Rattle.ps_ask.specs.Fronts.{IsBegunText, IsShownVerdict, begun_text, parts_pieces, verdict_piece}
use Rattle.ps_ask.specs.Replies.{ArePiecesFor, CountsShown, Ended, IsVerdictPiece}
use Rattle.ps_ask.proofs.EndLaws.{ended_after, ended_as, nothing_appended}
use Rattle.ps_ask.proofs.FrontLaws.{begun_after, begun_all, begun_verdict, pieces_none}

-- no parts are shown by nothing
pub nothing_shown : (style : Style) (digits : ℕ) (p : Parts) (rs : List Details) (o : Option (List ℕ)) → Appends o o (parts_pieces style digits p [] rs)
nothing_shown style digits p rs o = subst (λ t. Appends o o t) (sym (pieces_none style digits p rs)) (nothing_appended o)

pub answer_wrote : (s : Settings) (p : Parts) (v : Verdict) (events : List Event) (parts : List QueryPart) (rs : List Details) (old between new : Option (List ℕ))
    → Appends old between (verdict_piece s.style v) → Appends between new (parts_pieces s.style s.digits p parts rs)
    → Appends old new (begun_text s.style s.digits p (record { verdict = v; first = events; parts = parts }) rs)
answer_wrote s p v events parts rs old between new a b =
    subst (λ t. Appends old new t) (begun_all s.style s.digits p v events parts rs)
    (appends-then old between new (verdict_piece s.style v) (parts_pieces s.style s.digits p parts rs) a b)

pub answer_ended : (s : Settings) (p : Parts) (v : Verdict) (events : List Event) (e : ReplyError) (old between new : Option (List ℕ)) → IsShownVerdict s p v events
    → Appends old between (verdict_piece s.style v) → Ended (ArePiecesFor s p (asked_after v p.queries)) e between new → Ended (IsBegunText s p) e old new
answer_ended s p v events e old between new is a h =
    ended_after (ArePiecesFor s p (asked_after v p.queries)) (IsBegunText s p) e old between new (verdict_piece s.style v) a
    (begun_verdict s p (verdict_piece s.style v) (record { verdict = v; events = events; shown = is; is = refl }))
    (begun_after s p v events is) h

pub verdict_ended : (s : Settings) (p : Parts) (e : ReplyError) (old new : Option (List ℕ)) → Ended (IsVerdictPiece s p) e old new → Ended (IsBegunText s p) e old new
verdict_ended s p e old new h = ended_as (IsVerdictPiece s p) (IsBegunText s p) e old new (begun_verdict s p) h

pub counts_after : {T : Type 0} (r : Result T ReplyError) (old between new : ℕ) → between ≡ old → CountsShown r between new → CountsShown r old new
counts_after r old between new e h = subst (λ k. CountsShown r k new) e h
