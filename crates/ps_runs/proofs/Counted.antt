-- Where a lawful answer is open for conflicts, it holds as many steps as their limit.
use Rattle.std.proofs.Common.{ℕ, None, List, [], ◌∷◌}
use Rattle.std.specs.List.{AllZip}
use Rattle.ps_problem.specs.declared.query.Query.{Query}
use Rattle.ps_problem.specs.Problems.{Parts}
use Rattle.ps_table.specs.declared.event.Event.{Event}
use Rattle.ps_answer.specs.declared.answer.Cause.{Cause}
use Rattle.ps_answer.specs.declared.answer.Cause.TheVariants.{Pivots, Conflicts, Wide}
use Rattle.ps_answer.specs.declared.answer.Verdict.{Verdict}
use Rattle.ps_answer.specs.declared.answer.Verdict.TheVariants.{Consistent, Inconsistent, Open}
use Rattle.ps_answer.specs.declared.answer.SideAnswer.{SideAnswer}
use Rattle.ps_answer.specs.declared.answer.SideAnswer.TheVariants as side
use Rattle.ps_answer.specs.declared.answer.QueryAnswer.{QueryAnswer}
use Rattle.ps_answer.specs.declared.answer.QueryAnswer.TheVariants as query
use Rattle.ps_answer.specs.declared.answer.QueryPart.{QueryPart}
use Rattle.ps_answer.specs.declared.answer.Answer.{Answer}
use Rattle.ps_answer.specs.Answers.{IsCounted, IsVerdictCounted, IsSideCounted, IsQueryCounted, ArePartsCounted, IsAnswerCounted}
use Rattle.ps_claims.specs.declared.claim_kind.ClaimKind.{ClaimKind}
use Rattle.ps_claims.specs.declared.claim_kind.ClaimKind.TheVariants.{Nothing, Lower, Upper}
use Rattle.ps_runs.specs.declared.limits.Limits.{Limits}
use Rattle.ps_runs.specs.Subjects.{Subject, subject_of, program_of}
use Rattle.ps_runs.specs.Subjects.{program_of}
use Rattle.ps_runs.specs.Runs.{Stage}
use Rattle.ps_runs.specs.Licences.{IsLicensed}
use Rattle.ps_runs.specs.Verdicts.{IsVerdictAt, IsSideAt, IsLawfulAnswerTo, IsLawfulPart, IsLawfulAnswer, asked_after}

licensed : (kind : ClaimKind) (s : Subject) (limits : Limits) (g : Stage) (left : ℕ) (cause : Cause) → IsLicensed (program_of kind s) limits g left cause → IsCounted cause
licensed kind s limits g left (Pivots limit) h = tt
licensed kind s limits g left (Conflicts limit goal steps) h = h.spent.count
licensed kind s limits g left (Wide at) h = tt

verdict_counted : (s : Subject) (limits : Limits) (g : Stage) (left : ℕ) (v : Verdict) → IsVerdictAt (program_of Nothing s) limits g left v → IsVerdictCounted v
verdict_counted s limits g left (Consistent m) h = tt
verdict_counted s limits g left (Inconsistent d) h = tt
verdict_counted s limits g left (Open cause) h = licensed Nothing s limits g left cause h

side_counted : (kind : ClaimKind) (s : Subject) (limits : Limits) (g : Stage) (left : ℕ) (a : SideAnswer) → IsSideAt (program_of kind s) limits g left a → IsSideCounted a
side_counted kind s limits g left (side.Bound value m d) h = tt
side_counted kind s limits g left (side.Open cause) h = licensed kind s limits g left cause h

query_counted : (s : Subject) (limits : Limits) (first : List Event) (a : QueryAnswer) → IsLawfulAnswerTo s limits first a → IsQueryCounted a
query_counted s limits first (query.Bounds lower lower_trace upper upper_trace) h = (
  side_counted Lower s limits h.after_lower h.left_lower lower h.least.answered,
  side_counted Upper s limits h.end h.left upper h.greatest.answered,
)
query_counted s limits first (query.Impossible d) h = tt
query_counted s limits first (query.Open cause) h = licensed Nothing s limits h.end h.left cause h.answered

parts_counted : (p : Parts) (limits : Limits) (qs : List Query) (parts : List QueryPart) → AllZip (IsLawfulPart p limits) qs parts → ArePartsCounted parts
parts_counted p limits [] [] h = tt
parts_counted p limits [] (x ∷ xs) h = absurd h
parts_counted p limits (q ∷ qs) [] h = tt
parts_counted p limits (q ∷ qs) (x ∷ xs) h = (query_counted (subject_of p q) limits x.first x.answer h.0, parts_counted p limits qs xs h.1)

pub answer_counted : (p : Parts) (limits : Limits) (a : Answer) → IsLawfulAnswer p limits a → IsAnswerCounted a
answer_counted p limits a h = record {
  verdict = verdict_counted (record { parts = p; query = None }) limits h.verdict.end h.verdict.left a.verdict h.verdict.answered;
  parts = parts_counted p limits (asked_after a.verdict p.queries) a.parts h.parts;
}
