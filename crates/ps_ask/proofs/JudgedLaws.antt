-- What is judged may be shown.
use Rattle.std.proofs.Common.{◌≡◌, Bool, true, false, List, [], Option, refl, inl, inr}
use Rattle.std.specs.Prelude.{◌||◌, Result, Ok, Err, IfOk}
use Rattle.ps_problem.specs.declared.query.Query.{Query}
use Rattle.ps_problem.specs.Problems.{Parts, AreParts, HasNodes}
use Rattle.ps_table.specs.declared.event.Event.{Event}
use Rattle.ps_answer.specs.declared.answer.QueryPart.{QueryPart}
use Rattle.ps_answer.specs.declared.answer.QueryAnswer.TheVariants as query
use Rattle.ps_answer.specs.declared.answer.SideAnswer.{SideAnswer}
use Rattle.ps_answer.specs.declared.answer.SideAnswer.TheVariants as side
use Rattle.ps_answer.specs.declared.answer.Verdict.{Verdict}
use Rattle.ps_answer.specs.declared.answer.Verdict.TheVariants.{Open}
use Rattle.ps_claims.specs.declared.claim_kind.ClaimKind.{ClaimKind}
use Rattle.ps_claims.specs.declared.claim_kind.ClaimKind.TheVariants.{Lower, Upper}
use Rattle.ps_claims.specs.Validity.{IsValidPart}
use Rattle.ps_valid.specs.Answers.{part_of, verdict_of}
use Rattle.ps_guess.specs.Trials.{IsFoundSide}
use Rattle.ps_guess.specs.Known.{AreFound}
use Rattle.ps_guess.specs.Solutions.{IsAnsweredPart, IsAnsweredVerdict}
use Rattle.ps_guess.proofs.Right.{right_part, right_verdict}
use Rattle.ps_guess.proofs.Settled.{found_bounds, found_printed, found_valid}
use Rattle.ps_spoken.specs.Spoken.{out_of_time}
use Rattle.ps_ask.specs.declared.settings.Settings.{Settings}
use Rattle.ps_ask.specs.Late.{is_late_side, IsClosedOrLate}
use Rattle.ps_ask.specs.Fronts.{IsJudgedBeside, IsJudgedPart, IsShownPart, IsShownVerdict}

pub shown_verdict : (s : Settings) (p : Parts) (v : Verdict) (events : List Event) → AreParts p → IsAnsweredVerdict s.limits p v events → IsShownVerdict s p v events
shown_verdict s p v events are h = record { right = right_verdict p (verdict_of v) are h.valid; judged = inl h }

pub late_verdict : (s : Settings) (p : Parts) → s.is_timed ≡ true → IsShownVerdict s p (Open out_of_time) []
late_verdict s p timed = record { right = tt; judged = inr (record { timed = timed; over = refl }) }

pub shown_part : (s : Settings) (p : Parts) (q : Query) (part : QueryPart) → AreParts p → HasNodes p.nodes q.formula q.given q.both → IsAnsweredPart s.limits p q part
    → IsShownPart s p q part
shown_part s p q part are has h = record { right = right_part p q (part_of part.answer) are has h.valid; judged = inl h }

-- so each part is valid
valid_judged : (s : Settings) (p : Parts) (q : Query) (part : QueryPart) → IsJudgedPart s p q part → IsValidPart p q (part_of part.answer)
valid_judged s p q part (inl h) = h.valid
valid_judged s p q part (inr h) = h.valid

pub late_part : (s : Settings) (p : Parts) (q : Query) (lower upper : Option SideAnswer) (part : QueryPart) → AreParts p → HasNodes p.nodes q.formula q.given q.both
    → s.is_timed ≡ true → AreFound p q lower upper → IsJudgedBeside lower upper part → IsShownPart s p q part
late_part s p q lower upper part are has timed found h =
    let judged : IsJudgedPart s p q part = h s p q timed found in
    record { right = right_part p q (part_of part.answer) are has (valid_judged s p q part judged); judged = judged }

-- ---- what is left where time was over
or-true : (b : Bool) → (b || true) ≡ true
or-true true = refl
or-true false = refl

closed_or_late : (p : Parts) (kind : ClaimKind) (q : Query) (a : SideAnswer) → IsFoundSide p kind q a → IsClosedOrLate a
closed_or_late p kind q (side.Bound value m d) h = tt
closed_or_late p kind q (side.Open cause) h = absurd h

pub late_both : (s : Settings) (p : Parts) (q : Query) (lower upper : SideAnswer) → IsFoundSide p Lower q lower → IsFoundSide p Upper q upper
    → IsJudgedPart s p q (record { answer = query.Bounds lower [] upper []; first = [] })
late_both s p q lower upper l u = inl (found_bounds s.limits p q lower upper l u)

pub late_below : (s : Settings) (p : Parts) (q : Query) (lower : SideAnswer) → s.is_timed ≡ true → IsFoundSide p Lower q lower
    → IsJudgedPart s p q (record { answer = query.Bounds lower [] (side.Open out_of_time) []; first = [] })
late_below s p q lower timed h =
    inr (record { timed = timed; late = or-true (is_late_side lower); only = (closed_or_late p Lower q lower h, refl); valid = (found_valid p Lower q lower h, tt); printed = (found_printed p Lower q lower h, tt) })

pub late_above : (s : Settings) (p : Parts) (q : Query) (upper : SideAnswer) → s.is_timed ≡ true → IsFoundSide p Upper q upper
    → IsJudgedPart s p q (record { answer = query.Bounds (side.Open out_of_time) [] upper []; first = [] })
late_above s p q upper timed h =
    inr (record { timed = timed; late = refl; only = (refl, closed_or_late p Upper q upper h); valid = (tt, found_valid p Upper q upper h); printed = (tt, found_printed p Upper q upper h) })

pub late_whole : (s : Settings) (p : Parts) (q : Query) → s.is_timed ≡ true → IsJudgedPart s p q (record { answer = query.Open out_of_time; first = [] })
late_whole s p q timed = inr (record { timed = timed; late = refl; only = refl; valid = tt; printed = tt })

pub shown_verdict_ok : {E : Type 0} (s : Settings) (p : Parts) (r : Result (Verdict × List Event) E) → AreParts p → IfOk r (λ x. IsAnsweredVerdict s.limits p x.0 x.1)
    → IfOk r (λ x. IsShownVerdict s p x.0 x.1)
shown_verdict_ok s p (Ok x) are h = shown_verdict s p x.0 x.1 are h
shown_verdict_ok s p (Err e) are h = tt

pub shown_part_ok : {E : Type 0} (s : Settings) (p : Parts) (q : Query) (r : Result QueryPart E) → AreParts p → HasNodes p.nodes q.formula q.given q.both
    → IfOk r (IsAnsweredPart s.limits p q) → IfOk r (IsShownPart s p q)
shown_part_ok s p q (Ok part) are has h = shown_part s p q part are has h
shown_part_ok s p q (Err e) are has h = tt
