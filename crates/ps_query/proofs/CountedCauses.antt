-- Where a settled answer is open for conflicts, it holds as many steps as their limit.
use Rattle.std.proofs.Common.{◌⊎◌, ℕ, List, [], ◌∷◌, inl, inr, sym, subst}
use Rattle.std.specs.List.{AllZip}
use Rattle.ps_problem.specs.declared.query.Query.{Query}
use Rattle.ps_problem.specs.Problems.{Parts}
use Rattle.ps_table.specs.declared.event.Event.{Event}
use Rattle.ps_answer.specs.declared.answer.Cause.{Cause}
use Rattle.ps_answer.specs.declared.answer.Cause.TheVariants.{Pivots, Conflicts, Wide}
use Rattle.ps_answer.specs.declared.answer.Verdict.{Verdict}
use Rattle.ps_answer.specs.declared.answer.Verdict.TheVariants.{Consistent, Inconsistent, Open}
use Rattle.ps_answer.specs.declared.answer.SideAnswer.{SideAnswer}
use Rattle.ps_answer.specs.declared.answer.SideAnswer.TheVariants as side
use Rattle.ps_answer.specs.declared.answer.QueryAnswer.{QueryAnswer}
use Rattle.ps_answer.specs.declared.answer.QueryAnswer.TheVariants as query
use Rattle.ps_answer.specs.declared.answer.QueryPart.{QueryPart}
use Rattle.ps_answer.specs.declared.answer.Answer.{Answer}
use Rattle.ps_answer.specs.Answers.{IsCounted, IsVerdictCounted, IsSideCounted, IsQueryCounted, ArePartsCounted, IsAnswerCounted}
use Rattle.ps_claims.specs.declared.claim_kind.ClaimKind.{ClaimKind}
use Rattle.ps_claims.specs.declared.claim_kind.ClaimKind.TheVariants.{Nothing, Lower, Upper}
use Rattle.ps_runs.specs.declared.limits.Limits.{Limits}
use Rattle.ps_runs.specs.Subjects.{Subject, sentences_of, subject_of, program_of}
use Rattle.ps_runs.specs.Subjects.{program_of}
use Rattle.ps_runs.specs.Runs.{Stage}
use Rattle.ps_runs.specs.Licences.{IsLicensed}
use Rattle.ps_runs.specs.Verdicts.{IsSideAt, IsLawfulPhaseOne, IsLawfulAnswerTo, asked_after}
use Rattle.ps_query.specs.Settled.{IsClosed, IsCertifiedVerdict, IsCertifiedAnswer, IsLeftBy, IsBesideRun, IsOfRun, IsSettledVerdict, IsSettledPart, IsSettledAnswer}

licensed : (kind : ClaimKind) (s : Subject) (limits : Limits) (g : Stage) (left : ℕ) (cause : Cause) → IsLicensed (program_of kind s) limits g left cause → IsCounted cause
licensed kind s limits g left (Pivots limit) h = tt
licensed kind s limits g left (Conflicts limit goal steps) h = h.spent.count
licensed kind s limits g left (Wide at) h = tt

-- ---- verdicts
certified_verdict : (v : Verdict) (events : List Event) → IsCertifiedVerdict v events → IsVerdictCounted v
certified_verdict (Consistent m) events h = tt
certified_verdict (Inconsistent d) events h = tt
certified_verdict (Open cause) events h = absurd h

run_verdict : (s : Subject) (limits : Limits) (v : Verdict) (events : List Event) → IsLawfulPhaseOne (program_of Nothing s) limits v events → IsVerdictCounted v
run_verdict s limits (Consistent m) events h = tt
run_verdict s limits (Inconsistent d) events h = tt
run_verdict s limits (Open cause) events h = licensed Nothing s limits h.end h.left cause h.answered

verdict_counted : (p : Parts) (limits : Limits) (v : Verdict) (events : List Event) → IsSettledVerdict p limits v events → IsVerdictCounted v
verdict_counted p limits v events h = elim h [
  | inl alone ↦ certified_verdict v events alone
  | inr run ↦ run_verdict (sentences_of p) limits v events run
]

-- ---- parts
closed_counted : (a : SideAnswer) → IsClosed a → IsSideCounted a
closed_counted (side.Bound value m d) h = tt
closed_counted (side.Open cause) h = absurd h

run_side : (kind : ClaimKind) (s : Subject) (limits : Limits) (g : Stage) (left : ℕ) (a : SideAnswer) → IsSideAt (program_of kind s) limits g left a → IsSideCounted a
run_side kind s limits g left (side.Bound value m d) h = tt
run_side kind s limits g left (side.Open cause) h = licensed kind s limits g left cause h

left_counted : (s : Subject) (limits : Limits) (first : List Event) (run : QueryAnswer) → IsLawfulAnswerTo s limits first run → (kind : ClaimKind) (a : SideAnswer) (events : List Event)
    → IsLeftBy run kind a events → IsSideCounted a
left_counted s limits first (query.Bounds lower lower_trace upper upper_trace) h Nothing a events left = absurd left
left_counted s limits first (query.Bounds lower lower_trace upper upper_trace) h Lower a events left =
    subst IsSideCounted (sym left.0) (run_side Lower s limits h.after_lower h.left_lower lower h.least.answered)
left_counted s limits first (query.Bounds lower lower_trace upper upper_trace) h Upper a events left =
    subst IsSideCounted (sym left.0) (run_side Upper s limits h.end h.left upper h.greatest.answered)
left_counted s limits first (query.Impossible d) h kind a events left = absurd left
left_counted s limits first (query.Open cause) h kind a events left =
    subst IsSideCounted (sym left.0) (licensed Nothing s limits h.end h.left cause h.answered)

beside_counted : (s : Subject) (limits : Limits) (first : List Event) (run : QueryAnswer) → IsLawfulAnswerTo s limits first run → (kind : ClaimKind) (a : SideAnswer) (events : List Event)
    → IsBesideRun run kind a events → IsSideCounted a
beside_counted s limits first run h kind a events beside = elim beside [
  | inl alone ↦ closed_counted a alone.closed
  | inr left ↦ left_counted s limits first run h kind a events left
]

certified_query : (first : List Event) (a : QueryAnswer) → IsCertifiedAnswer first a → IsQueryCounted a
certified_query first (query.Bounds lower lower_trace upper upper_trace) h = (closed_counted lower h.1.closed, closed_counted upper h.2.closed)
certified_query first (query.Impossible d) h = tt
certified_query first (query.Open cause) h = absurd h

run_query : (s : Subject) (limits : Limits) (first : List Event) (a : QueryAnswer) → IsOfRun s limits first a → IsQueryCounted a
run_query s limits first (query.Bounds lower lower_trace upper upper_trace) h = (
  beside_counted s limits first h.run h.lawful Lower lower lower_trace h.below,
  beside_counted s limits first h.run h.lawful Upper upper upper_trace h.above,
)
run_query s limits first (query.Impossible d) h = tt
run_query s limits first (query.Open cause) h = licensed Nothing s limits h.end h.left cause h.answered

query_counted : (s : Subject) (limits : Limits) (first : List Event) (a : QueryAnswer) → IsCertifiedAnswer first a ⊎ IsOfRun s limits first a → IsQueryCounted a
query_counted s limits first a h = elim h [
  | inl alone ↦ certified_query first a alone
  | inr run ↦ run_query s limits first a run
]

parts_counted : (p : Parts) (limits : Limits) (qs : List Query) (parts : List QueryPart) → AllZip (IsSettledPart p limits) qs parts → ArePartsCounted parts
parts_counted p limits [] [] h = tt
parts_counted p limits [] (x ∷ xs) h = absurd h
parts_counted p limits (q ∷ qs) [] h = tt
parts_counted p limits (q ∷ qs) (x ∷ xs) h = (query_counted (subject_of p q) limits x.first x.answer h.0, parts_counted p limits qs xs h.1)

pub settled_counted : (p : Parts) (limits : Limits) (a : Answer) → IsSettledAnswer p limits a → IsAnswerCounted a
settled_counted p limits a h = record {
  verdict = verdict_counted p limits a.verdict a.first h.verdict;
  parts = parts_counted p limits (asked_after a.verdict p.queries) a.parts h.parts;
}
