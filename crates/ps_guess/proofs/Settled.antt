-- What is found, or run, is an answer.
use Rattle.std.proofs.Common.{Some, None, List, [], ◌∷◌, All, sym, subst, refl, inl, inr}
use Rattle.std.specs.List.{AllZip}
use Rattle.std.proofs.lemmas.List.Elements.{All-nil, All-cons}
use Rattle.ps_problem.specs.declared.query.Query.{Query}
use Rattle.ps_problem.specs.Problems.{Parts, AreParts}
use Rattle.ps_table.specs.declared.event.Event.{Event}
use Rattle.ps_answer.specs.declared.answer.Answer.{Answer}
use Rattle.ps_answer.specs.declared.answer.Cause.{Cause}
use Rattle.ps_answer.specs.declared.answer.Dual.{Dual}
use Rattle.ps_answer.specs.declared.answer.Model.{Model}
use Rattle.ps_answer.specs.declared.answer.QueryPart.{QueryPart}
use Rattle.ps_answer.specs.declared.answer.QueryAnswer.{QueryAnswer}
use Rattle.ps_answer.specs.declared.answer.QueryAnswer.TheVariants as query
use Rattle.ps_answer.specs.declared.answer.SideAnswer.{SideAnswer}
use Rattle.ps_answer.specs.declared.answer.SideAnswer.TheVariants as side
use Rattle.ps_answer.specs.declared.answer.Verdict.{Verdict}
use Rattle.ps_answer.specs.declared.answer.Verdict.TheVariants.{Consistent, Inconsistent}
use Rattle.ps_answer.proofs.WrittenItems.{written_report}
use Rattle.ps_claims.specs.declared.claim_kind.ClaimKind.{ClaimKind}
use Rattle.ps_claims.specs.declared.claim_kind.ClaimKind.TheVariants.{Lower, Upper}
use Rattle.ps_claims.specs.Validity.{IsValidSide, IsValidPart, IsValid}
use Rattle.ps_claims.proofs.Valid.{valid-right}
use Rattle.ps_valid.specs.Answers.{answer_of, parts_of, side_of}
use Rattle.ps_runs.specs.Verdicts.{asked_after}
use Rattle.ps_claims.specs.Printed.{IsPrintedAnswer, IsPrintedPart, IsPrintedSide}
use Rattle.ps_runs.specs.declared.limits.Limits.{Limits}
use Rattle.ps_generation.specs.Phases.{AreLimits}
use Rattle.ps_query.specs.Laws.{IsAnswered}
use Rattle.ps_query.specs.Settled.{IsClosed, IsCertifiedSide, IsSettledPart, IsSettledAnswer}
use Rattle.ps_query.proofs.CountedCauses.{settled_counted}
use Rattle.ps_query.proofs.LawfulAnswers.{lawful_settled}
use Rattle.ps_query.proofs.Reports.{all_within, all_short, asked_same}
use Rattle.ps_query.specs.Parts.{IsPartOf, IsVerdictOf}
use Rattle.ps_query.specs.Solutions.{AreShortLines, IsReadBack}
use Rattle.ps_guess.specs.Trials.{IsFoundDual, IsFoundModel, IsFoundSide}
use Rattle.ps_guess.specs.Solutions.{IsAnsweredPart, IsAnsweredSide, IsAnsweredVerdict, IsSettledSolution}

-- ---- the verdict
pub found_consistent : (limits : Limits) (p : Parts) (m : Model) → IsFoundModel p m → IsAnsweredVerdict limits p (Consistent m) []
found_consistent limits p m h = record { settled = inl refl; valid = h.valid; printed = h.printed }

pub found_inconsistent : (limits : Limits) (p : Parts) (d : Dual) → IsFoundDual p None d → IsAnsweredVerdict limits p (Inconsistent d) []
found_inconsistent limits p d h = record { settled = inl refl; valid = h.valid; printed = h.printed }

pub run_verdict : (limits : Limits) (p : Parts) (v : Verdict) (events : List Event) → IsVerdictOf limits p v events → IsAnsweredVerdict limits p v events
run_verdict limits p v events h = record { settled = inr h.lawful; valid = h.valid; printed = h.printed }

-- ---- a side
found_closed : (p : Parts) (kind : ClaimKind) (q : Query) (a : SideAnswer) → IsFoundSide p kind q a → IsClosed a
found_closed p kind q (side.Bound value m d) h = tt
found_closed p kind q (side.Open cause) h = absurd h

pub found_valid : (p : Parts) (kind : ClaimKind) (q : Query) (a : SideAnswer) → IsFoundSide p kind q a → IsValidSide p kind q (side_of a)
found_valid p kind q (side.Bound value m d) h = h.0
found_valid p kind q (side.Open cause) h = absurd h

pub found_printed : (p : Parts) (kind : ClaimKind) (q : Query) (a : SideAnswer) → IsFoundSide p kind q a → IsPrintedSide a
found_printed p kind q (side.Bound value m d) h = (h.1, h.2)
found_printed p kind q (side.Open cause) h = absurd h

certified : (p : Parts) (kind : ClaimKind) (q : Query) (a : SideAnswer) → IsFoundSide p kind q a → IsCertifiedSide a []
certified p kind q a h = record { closed = found_closed p kind q a h; none = refl }

-- a side that was found is answered beside each run
pub found_beside : (p : Parts) (q : Query) (run : QueryAnswer) (kind : ClaimKind) (a : SideAnswer) → IsFoundSide p kind q a → IsAnsweredSide p q run kind a []
found_beside p q run kind a h = record { beside = inl (certified p kind q a h); valid = found_valid p kind q a h; printed = found_printed p kind q a h }

-- ---- a part
pub found_impossible : (limits : Limits) (p : Parts) (q : Query) (d : Dual) → IsFoundDual p (Some q) d → IsAnsweredPart limits p q (record { answer = query.Impossible d; first = [] })
found_impossible limits p q d h = record { settled = inl refl; valid = h.valid; printed = h.printed }

pub found_bounds : (limits : Limits) (p : Parts) (q : Query) (lower upper : SideAnswer) → IsFoundSide p Lower q lower → IsFoundSide p Upper q upper
    → IsAnsweredPart limits p q (record { answer = query.Bounds lower [] upper []; first = [] })
found_bounds limits p q lower upper l u = record {
  settled = inl (refl, certified p Lower q lower l, certified p Upper q upper u);
  valid = (found_valid p Lower q lower l, found_valid p Upper q upper u);
  printed = (found_printed p Lower q lower l, found_printed p Upper q upper u);
}

-- a run's own part
pub run_part : (limits : Limits) (p : Parts) (q : Query) (part : QueryPart) → IsPartOf limits p q part → IsAnsweredPart limits p q part
run_part limits p q part h = record { settled = lawful_settled p limits q part h.lawful; valid = h.valid; printed = h.printed }

-- both sides beside a run
pub beside_bounds : (limits : Limits) (p : Parts) (q : Query) (run : QueryPart) (lower upper : SideAnswer) (lower_events upper_events : List Event) → IsPartOf limits p q run
    → IsAnsweredSide p q run.answer Lower lower lower_events → IsAnsweredSide p q run.answer Upper upper upper_events
    → IsAnsweredPart limits p q (record { answer = query.Bounds lower lower_events upper upper_events; first = run.first })
beside_bounds limits p q run lower upper lower_events upper_events h l u = record {
  settled = inr (record { run = run.answer; lawful = h.lawful; below = l.beside; above = u.beside });
  valid = (l.valid, u.valid);
  printed = (l.printed, u.printed);
}

pub bounds_beside : (limits : Limits) (p : Parts) (q : Query) (l u : SideAnswer) (les ues first : List Event) (lower upper : SideAnswer) (lower_events upper_events : List Event)
    → IsPartOf limits p q (record { answer = query.Bounds l les u ues; first = first })
    → IsAnsweredSide p q (query.Bounds l les u ues) Lower lower lower_events → IsAnsweredSide p q (query.Bounds l les u ues) Upper upper upper_events
    → IsAnsweredPart limits p q (record { answer = query.Bounds lower lower_events upper upper_events; first = first })
bounds_beside limits p q l u les ues first lower upper lower_events upper_events h below above =
    beside_bounds limits p q (record { answer = query.Bounds l les u ues; first = first }) lower upper lower_events upper_events h below above

-- what a run leaves of its sides is answered
pub left_lower : (limits : Limits) (p : Parts) (q : Query) (lower upper : SideAnswer) (lower_events upper_events first : List Event)
    → IsPartOf limits p q (record { answer = query.Bounds lower lower_events upper upper_events; first = first })
    → IsAnsweredSide p q (query.Bounds lower lower_events upper upper_events) Lower lower lower_events
left_lower limits p q lower upper lower_events upper_events first h = record { beside = inr (refl, refl); valid = h.valid.0; printed = h.printed.0 }

pub left_upper : (limits : Limits) (p : Parts) (q : Query) (lower upper : SideAnswer) (lower_events upper_events first : List Event)
    → IsPartOf limits p q (record { answer = query.Bounds lower lower_events upper upper_events; first = first })
    → IsAnsweredSide p q (query.Bounds lower lower_events upper upper_events) Upper upper upper_events
left_upper limits p q lower upper lower_events upper_events first h = record { beside = inr (refl, refl); valid = h.valid.1; printed = h.printed.1 }

left_open : (limits : Limits) (p : Parts) (q : Query) (cause : Cause) (first : List Event) (kind : ClaimKind) → IsPartOf limits p q (record { answer = query.Open cause; first = first })
    → IsAnsweredSide p q (query.Open cause) kind (side.Open cause) []
left_open limits p q cause first kind h = record { beside = inr (refl, refl); valid = tt; printed = h.printed }

-- one side was found, and phase one of the run is open
pub only_lower : (limits : Limits) (p : Parts) (q : Query) (lower : SideAnswer) (cause : Cause) (first : List Event) → IsPartOf limits p q (record { answer = query.Open cause; first = first })
    → IsFoundSide p Lower q lower → IsAnsweredPart limits p q (record { answer = query.Bounds lower [] (side.Open cause) []; first = first })
only_lower limits p q lower cause first h l =
    beside_bounds limits p q (record { answer = query.Open cause; first = first }) lower (side.Open cause) [] [] h
    (found_beside p q (query.Open cause) Lower lower l) (left_open limits p q cause first Upper h)

pub only_upper : (limits : Limits) (p : Parts) (q : Query) (upper : SideAnswer) (cause : Cause) (first : List Event) → IsPartOf limits p q (record { answer = query.Open cause; first = first })
    → IsFoundSide p Upper q upper → IsAnsweredPart limits p q (record { answer = query.Bounds (side.Open cause) [] upper []; first = first })
only_upper limits p q upper cause first h u =
    beside_bounds limits p q (record { answer = query.Open cause; first = first }) (side.Open cause) upper [] [] h
    (left_open limits p q cause first Lower h) (found_beside p q (query.Open cause) Upper upper u)

-- ---- all parts
settled_parts : (limits : Limits) (p : Parts) (qs : List Query) (parts : List QueryPart) → AllZip (IsAnsweredPart limits p) qs parts → AllZip (IsSettledPart p limits) qs parts
settled_parts limits p [] [] h = tt
settled_parts limits p [] (x ∷ xs) h = h
settled_parts limits p (q ∷ qs) [] h = h
settled_parts limits p (q ∷ qs) (x ∷ xs) h = (h.0.settled, settled_parts limits p qs xs h.1)

valid_parts : (limits : Limits) (p : Parts) (qs : List Query) (parts : List QueryPart) → AllZip (IsAnsweredPart limits p) qs parts → AllZip (IsValidPart p) qs (parts_of parts)
valid_parts limits p [] [] h = tt
valid_parts limits p [] (x ∷ xs) h = h
valid_parts limits p (q ∷ qs) [] h = h
valid_parts limits p (q ∷ qs) (x ∷ xs) h = (h.0.valid, valid_parts limits p qs xs h.1)

printed_parts : (limits : Limits) (p : Parts) (qs : List Query) (parts : List QueryPart) → AllZip (IsAnsweredPart limits p) qs parts → All (λ part. IsPrintedPart part.answer) parts
printed_parts limits p [] [] h = All-nil (λ part. IsPrintedPart part.answer)
printed_parts limits p [] (x ∷ xs) h = absurd h
printed_parts limits p (q ∷ qs) [] h = absurd h
printed_parts limits p (q ∷ qs) (x ∷ xs) h = All-cons (λ part. IsPrintedPart part.answer) x xs h.0.printed (printed_parts limits p qs xs h.1)

-- ---- the answer
module _ (limits : Limits) (p : Parts) (v : Verdict) (events : List Event) (parts : List QueryPart) (is : IsAnsweredVerdict limits p v events) (each : AllZip (IsAnsweredPart limits p) (asked_after v p.queries) parts) where
  abbrev pub answer : Answer
  answer = record { verdict = v; first = events; parts = parts }

  valid : IsValid p (answer_of answer)
  valid = record {
    verdict = is.valid;
    parts = subst (λ qs. AllZip (IsValidPart p) qs (parts_of parts)) (sym (asked_same v p.queries)) (valid_parts limits p (asked_after v p.queries) parts each);
  }

  settled : IsSettledAnswer p limits answer
  settled = record { verdict = is.settled; parts = settled_parts limits p (asked_after v p.queries) parts each }

  printed : IsPrintedAnswer answer
  printed = record { verdict = is.printed; parts = printed_parts limits p (asked_after v p.queries) parts each }

  pub solution : AreParts p → IsSettledSolution limits p answer
  solution are = record { valid = valid; right = valid-right p (answer_of answer) are valid; settled = settled; printed = printed }

  module _ (are : AreParts p) (within : AreLimits limits) where
    answered : IsAnswered p limits answer
    answered = record { parts = are; few_pivots = within.pivots; few_conflicts = within.conflicts; settled = settled; valid = valid; printed = printed }

    pub short : AreShortLines answer
    short = all_short p limits answer answered

    pub read_back : IsReadBack limits answer
    read_back few = written_report answer (settled_counted p limits answer settled) (all_within p limits answer answered few)
