-- Lawful answers: what is answered is what the events of its runs lead to, within the limits of pivots and conflicts.
use Rattle.std.specs.Prelude.{◌≡◌, ℕ, ◌+◌, List, []}
use Rattle.std.specs.List.{AllZip}
use Rattle.ps_meaning.specs.Rational.{Rational}
use Rattle.ps_problem.specs.declared.query.Query.{Query}
use Rattle.ps_problem.specs.Problems.{Parts}
use Rattle.ps_table.specs.declared.event.Event.{Event}
use Rattle.ps_answer.specs.declared.answer.Verdict.{Verdict}
use Rattle.ps_answer.specs.declared.answer.Verdict.TheVariants.{Consistent, Inconsistent, Open}
use Rattle.ps_answer.specs.declared.answer.SideAnswer.{SideAnswer}
use Rattle.ps_answer.specs.declared.answer.SideAnswer.TheVariants as side
use Rattle.ps_answer.specs.declared.answer.QueryAnswer.{QueryAnswer}
use Rattle.ps_answer.specs.declared.answer.QueryAnswer.TheVariants as query
use Rattle.ps_answer.specs.declared.answer.QueryPart.{QueryPart}
use Rattle.ps_answer.specs.declared.answer.Answer.{Answer}
use Rattle.ps_claims.specs.declared.claim_kind.ClaimKind.TheVariants.{Nothing, Lower, Upper}
use Rattle.ps_claims.specs.Duals.{HasValueHead}
use Rattle.ps_runs.specs.declared.limits.Limits.{Limits}
use Rattle.ps_runs.specs.Programs.{Program}
use Rattle.ps_runs.specs.Subjects.{Subject, subject_of, sentences_of, frame_of, program_of}
use Rattle.ps_runs.specs.Runs.{Stage, IsStart, LeadsTo, pivots_in, IsFeasibleAt, IsModelAt, IsDualAt}
use Rattle.ps_claims.specs.Certificates.{model_of, dual_of}
use Rattle.ps_runs.specs.Licences.{IsLicensed}

-- what phase one answers at a stage
abbrev pub IsVerdictAt : Program → Limits → Stage → ℕ → Verdict → Type 0
IsVerdictAt p limits g left (Consistent m) = IsModelAt p.frame g (model_of m)
IsVerdictAt p limits g left (Inconsistent d) = IsDualAt p g (dual_of d)
IsVerdictAt p limits g left (Open cause) = IsLicensed p limits g left cause

-- the events of phase one lead from the homes, within the limit of pivots, to where this is its answer
pub record IsLawfulPhaseOne (p : Program) (limits : Limits) (answer : Verdict) (events : List Event) : Type 0 where
  pub start : Stage
  pub starts : IsStart p.frame start
  pub end : Stage
  pub left : ℕ
  pub leads : LeadsTo p limits.conflicts start events end
  pub counted : left + pivots_in events ≡ limits.pivots
  pub answered : IsVerdictAt p limits end left answer

-- the verdict on a problem's sentences is that of a run without a query
abbrev pub IsLawfulVerdict : Parts → Limits → Verdict → List Event → Type 0
IsLawfulVerdict p limits verdict events = IsLawfulPhaseOne (program_of Nothing (sentences_of p)) limits verdict events

-- what a side answers at a stage
abbrev pub IsSideAt : Program → Limits → Stage → ℕ → SideAnswer → Type 0
IsSideAt p limits g left (side.Bound value m d) =
    IsModelAt p.frame g (model_of m) × IsDualAt p g (dual_of d) × HasValueHead value (dual_of d)
IsSideAt p limits g left (side.Open cause) = IsLicensed p limits g left cause

-- the events of a side lead from one stage, with so many pivots left, to another where this is its answer: a stage goes with
-- the pivots that are left there, and the answer with its events
pub record IsLawfulSide (p : Program) (limits : Limits) (from to : Stage × ℕ) (a : SideAnswer × List Event) : Type 0 where
  pub leads : LeadsTo p limits.conflicts from.0 a.1 to.0
  pub counted : to.1 + pivots_in a.1 ≡ from.1
  pub answered : IsSideAt p limits to.0 to.1 a.0

-- phase one is over at a feasible table, and both sides, each with its events, go on from there, the upper one from where the
-- lower one ended
pub record AreLawfulBounds (s : Subject) (limits : Limits) (first : List Event) (lower upper : SideAnswer × List Event)
    : Type 0 where
  pub start : Stage
  pub starts : IsStart (frame_of s) start
  pub after_first : Stage
  pub left_first : ℕ
  pub leads : LeadsTo (program_of Nothing s) limits.conflicts start first after_first
  pub counted : left_first + pivots_in first ≡ limits.pivots
  pub table : ℕ → ℕ → Rational
  pub feasible : IsFeasibleAt (frame_of s) after_first table
  pub after_lower : Stage
  pub left_lower : ℕ
  pub least : IsLawfulSide (program_of Lower s) limits (after_first, left_first) (after_lower, left_lower) lower
  pub end : Stage
  pub left : ℕ
  pub greatest : IsLawfulSide (program_of Upper s) limits (after_lower, left_lower) (end, left) upper

-- what is answered to a query is what its run leads to; where it is open or impossible, phase one says so
abbrev pub IsLawfulAnswerTo : Subject → Limits → List Event → QueryAnswer → Type 0
IsLawfulAnswerTo s limits first (query.Bounds lower lower_events upper upper_events) =
    AreLawfulBounds s limits first (lower, lower_events) (upper, upper_events)
IsLawfulAnswerTo s limits first (query.Impossible d) = IsLawfulPhaseOne (program_of Nothing s) limits (Inconsistent d) first
IsLawfulAnswerTo s limits first (query.Open cause) = IsLawfulPhaseOne (program_of Nothing s) limits (Open cause) first

-- each query has a run of its own
abbrev pub IsLawfulPart : Parts → Limits → Query → QueryPart → Type 0
IsLawfulPart p limits q part = IsLawfulAnswerTo (subject_of p q) limits part.first part.answer

-- the queries that are gone into: each where the verdict is consistent, else none
abbrev pub asked_after : Verdict → List Query → List Query
asked_after (Consistent m) qs = qs
asked_after (Inconsistent d) qs = []
asked_after (Open cause) qs = []

-- the runs of an answer are lawful, and what is open is licensed
pub record IsLawfulAnswer (p : Parts) (limits : Limits) (a : Answer) : Type 0 where
  pub verdict : IsLawfulVerdict p limits a.verdict a.first
  pub parts : AllZip (IsLawfulPart p limits) (asked_after a.verdict p.queries) a.parts
