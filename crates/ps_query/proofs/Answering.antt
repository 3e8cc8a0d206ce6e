-- The verdict of a run without a query, with the parts of the queries, is a solution.
use Rattle.std.proofs.Common.{◌≡◌, None, List, [], ◌∷◌, All, sym, subst}
use Rattle.std.specs.List.{AllZip}
use Rattle.std.proofs.lemmas.List.Elements.{All-nil, All-cons}
use Rattle.ps_problem.specs.declared.query.Query.{Query}
use Rattle.ps_problem.specs.Problems.{Parts, AreParts}
use Rattle.ps_table.specs.declared.event.Event.{Event}
use Rattle.ps_answer.specs.declared.answer.Answer.{Answer}
use Rattle.ps_answer.specs.declared.answer.QueryPart.{QueryPart}
use Rattle.ps_answer.specs.declared.answer.Verdict.{Verdict}
use Rattle.ps_claims.specs.Validity.{IsValidVerdict, IsValidPart, IsValid}
use Rattle.ps_claims.proofs.Valid.{valid-right}
use Rattle.ps_valid.specs.Answers.{answer_of, parts_of, verdict_of as claimed_verdict}
use Rattle.ps_claims.specs.declared.claim_kind.ClaimKind.TheVariants.{Nothing}
use Rattle.ps_runs.specs.Kept.{AreAllKept}
use Rattle.ps_runs.specs.Subjects.{sentences_of}
use Rattle.ps_answer.proofs.WrittenItems.{written_report}
use Rattle.ps_runs.proofs.Counted.{answer_counted}
use Rattle.ps_runs.specs.Verdicts.{IsLawfulPart, IsLawfulPhaseOne, IsLawfulVerdict, asked_after}
use Rattle.ps_claims.specs.Printed.{IsPrintedAnswer, IsPrintedPart}
use Rattle.ps_runs.specs.declared.limits.Limits.{Limits}
use Rattle.ps_generation.specs.Phases.{AreLimits, LimitedSubject}
use Rattle.ps_query.specs.Laws.{IsAnswered}
use Rattle.ps_query.proofs.LawfulAnswers.{answer_settled}
use Rattle.ps_query.proofs.Reports.{all_within, all_short, asked_same}
use Rattle.ps_generation.specs.declared.first.First.{First}
use Rattle.ps_generation.specs.declared.first.First.TheVariants as first
use Rattle.ps_generation.specs.Runs.{RunState, IsPhaseOneAnswer, IsValidFirst, IsPrintedFirst, verdict_of}
use Rattle.ps_query.specs.Parts.{ComesOf, IsNewOverAll, IsOpening, IsPartOf, IsVerdictOf}
use Rattle.ps_query.specs.Solutions.{AreShortLines, IsReadBack, IsSolution}
use Rattle.ps_query.proofs.Queries.{traced_alone, lawful_whole, valid_whole}
use Rattle.ps_runs.specs.Subjects.{program_of}

-- ---- the verdict
valid_first : (p : Parts) (answer : First) → IsValidFirst (sentences_of p) answer → IsValidVerdict p (claimed_verdict (verdict_of answer))
valid_first p (first.Reached m) h = h.0
valid_first p (first.Nothing d) h = h
valid_first p (first.Open cause) h = tt

is_verdict : (limits : Limits) (p : Parts) (new done : RunState) (answer : First) → IsNewOverAll p None limits new → IsPhaseOneAnswer new done answer → IsPrintedFirst answer
    → IsVerdictOf limits p (verdict_of answer) done.trace
is_verdict limits p new done answer is_new of printed =
    let events : done.trace ≡ of.events = traced_alone new.trace of.events done.trace is_new.trace of.traced.appended in
    let all : AreAllKept new.over.flags = subst (λ (o : LimitedSubject). AreAllKept o.flags) (sym is_new.over) is_new.all in
    record {
      lawful =
          subst (λ es. IsLawfulVerdict p limits (verdict_of answer) es) (sym events)
          (subst (λ (o : LimitedSubject). IsLawfulPhaseOne (program_of Nothing o.subject) o.limits (verdict_of answer) of.events) is_new.over (lawful_whole new done answer all of));
      valid = valid_first p answer (subst (λ (o : LimitedSubject). IsValidFirst o.subject answer) is_new.over (valid_whole new done answer all of));
      printed = printed;
    }

-- by what else it is called
same_verdict : (limits : Limits) (p : Parts) (v w : Verdict) (events same : List Event) → v ≡ w → events ≡ same → IsVerdictOf limits p w same → IsVerdictOf limits p v events
same_verdict limits p v w events same e es h = subst (λ x. IsVerdictOf limits p x events) (sym e) (subst (λ x. IsVerdictOf limits p w x) (sym es) h)

-- the run behind a verdict
comes_of : (limits : Limits) (p : Parts) (new done : RunState) (answer : First) (first : List Event) (run : RunState) → IsNewOverAll p None limits new
    → first ≡ done.trace → run ≡ record done { trace = [] } → IsPhaseOneAnswer new done answer → ComesOf limits p (verdict_of answer) first run
comes_of limits p new done (first.Reached m) events run is_new traced taken of =
    record { new = new; done = done; model = m; is_new = is_new; answered = of; taken = taken; trace = traced }
comes_of limits p new done (first.Nothing d) events run is_new traced taken of = tt
comes_of limits p new done (first.Open cause) events run is_new traced taken of = tt

pub opening : (new done end : RunState) (answer : First) (v : Verdict) (events : List Event) → IsPhaseOneAnswer new done answer
    → IsPrintedFirst answer → v ≡ verdict_of answer → events ≡ done.trace → end ≡ record done { trace = [] } → IsOpening new end v events
opening new done end answer v events of printed verdict traced taken = record {
  verdict = λ limits p is_new. same_verdict limits p v (verdict_of answer) events done.trace verdict traced (is_verdict limits p new done answer is_new of printed);
  run = λ limits p is_new. subst (λ x. ComesOf limits p x events end) (sym verdict) (comes_of limits p new done answer events end is_new traced taken of);
}

-- ---- the parts
lawful_parts : (limits : Limits) (p : Parts) (qs : List Query) (parts : List QueryPart) → AllZip (IsPartOf limits p) qs parts → AllZip (IsLawfulPart p limits) qs parts
lawful_parts limits p [] [] h = tt
lawful_parts limits p [] (x ∷ xs) h = h
lawful_parts limits p (q ∷ qs) [] h = h
lawful_parts limits p (q ∷ qs) (x ∷ xs) h = (h.0.lawful, lawful_parts limits p qs xs h.1)

valid_parts : (limits : Limits) (p : Parts) (qs : List Query) (parts : List QueryPart) → AllZip (IsPartOf limits p) qs parts → AllZip (IsValidPart p) qs (parts_of parts)
valid_parts limits p [] [] h = tt
valid_parts limits p [] (x ∷ xs) h = h
valid_parts limits p (q ∷ qs) [] h = h
valid_parts limits p (q ∷ qs) (x ∷ xs) h = (h.0.valid, valid_parts limits p qs xs h.1)

printed_parts : (limits : Limits) (p : Parts) (qs : List Query) (parts : List QueryPart) → AllZip (IsPartOf limits p) qs parts → All (λ part. IsPrintedPart part.answer) parts
printed_parts limits p [] [] h = All-nil (λ part. IsPrintedPart part.answer)
printed_parts limits p [] (x ∷ xs) h = absurd h
printed_parts limits p (q ∷ qs) [] h = absurd h
printed_parts limits p (q ∷ qs) (x ∷ xs) h = All-cons (λ part. IsPrintedPart part.answer) x xs h.0.printed (printed_parts limits p qs xs h.1)

module _ (limits : Limits) (p : Parts) (v : Verdict) (events : List Event) (parts : List QueryPart) (is : IsVerdictOf limits p v events) (each : AllZip (IsPartOf limits p) (asked_after v p.queries) parts) where
  abbrev pub answer : Answer
  answer = record { verdict = v; first = events; parts = parts }

  valid : IsValid p (answer_of answer)
  valid = record {
    verdict = is.valid;
    parts = subst (λ qs. AllZip (IsValidPart p) qs (parts_of parts)) (sym (asked_same v p.queries)) (valid_parts limits p (asked_after v p.queries) parts each);
  }

  pub printed : IsPrintedAnswer answer
  printed = record { verdict = is.printed; parts = printed_parts limits p (asked_after v p.queries) parts each }

  pub solution : AreParts p → IsSolution limits p answer
  solution are = record {
    valid = valid;
    right = valid-right p (answer_of answer) are valid;
    lawful = record { verdict = is.lawful; parts = lawful_parts limits p (asked_after v p.queries) parts each };
    printed = printed;
  }

  module _ (are : AreParts p) (within : AreLimits limits) where
    answered : IsAnswered p limits answer
    answered = record {
      parts = are;
      few_pivots = within.pivots;
      few_conflicts = within.conflicts;
      settled = answer_settled p limits answer (solution are).lawful;
      valid = valid;
      printed = printed;
    }

    pub short : AreShortLines answer
    short = all_short p limits answer answered

    pub read_back : IsReadBack limits answer
    read_back few = written_report answer (answer_counted p limits answer (solution are).lawful) (all_within p limits answer answered few)
