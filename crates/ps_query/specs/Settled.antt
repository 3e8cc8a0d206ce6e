-- Answers of which each part was found with its certificate, or comes of a lawful run.
use Rattle.std.specs.Prelude.{◌≡◌, ◌⊎◌, List, []}
use Rattle.std.specs.List.{AllZip}
use Rattle.ps_problem.specs.declared.query.Query.{Query}
use Rattle.ps_problem.specs.Problems.{Parts}
use Rattle.ps_table.specs.declared.event.Event.{Event}
use Rattle.ps_answer.specs.declared.answer.Verdict.{Verdict}
use Rattle.ps_answer.specs.declared.answer.Verdict.TheVariants.{Consistent, Inconsistent, Open}
use Rattle.ps_answer.specs.declared.answer.SideAnswer.{SideAnswer}
use Rattle.ps_answer.specs.declared.answer.SideAnswer.TheVariants as side
use Rattle.ps_answer.specs.declared.answer.QueryAnswer.{QueryAnswer}
use Rattle.ps_answer.specs.declared.answer.QueryAnswer.TheVariants as query
use Rattle.ps_answer.specs.declared.answer.QueryPart.{QueryPart}
use Rattle.ps_answer.specs.declared.answer.Answer.{Answer}
use Rattle.ps_claims.specs.declared.claim_kind.ClaimKind.{ClaimKind}
use Rattle.ps_claims.specs.declared.claim_kind.ClaimKind.TheVariants.{Nothing, Lower, Upper}
use Rattle.ps_runs.specs.declared.limits.Limits.{Limits}
use Rattle.ps_runs.specs.Subjects.{Subject, subject_of}
use Rattle.ps_runs.specs.Verdicts.{IsLawfulVerdict, IsLawfulPhaseOne, IsLawfulAnswerTo, asked_after}
use Rattle.ps_runs.specs.Subjects.{program_of}

-- ---- without a run
-- the side is a value, with its certificate
abbrev pub IsClosed : SideAnswer → Type 0
IsClosed (side.Bound value m d) = Unit {0}
IsClosed (side.Open cause) = ⊥

-- a side without a run: it is closed, and no events led to it
pub record IsCertifiedSide (a : SideAnswer) (events : List Event) : Type 0 where
  pub closed : IsClosed a
  pub none : events ≡ []

-- a verdict without a run: it is closed, and no events led to it
abbrev pub IsCertifiedVerdict : Verdict → List Event → Type 0
IsCertifiedVerdict (Consistent m) events = events ≡ []
IsCertifiedVerdict (Inconsistent d) events = events ≡ []
IsCertifiedVerdict (Open cause) events = ⊥

-- an answer to a query without a run: nothing is open in it, and no events led to it
abbrev pub IsCertifiedAnswer : List Event → QueryAnswer → Type 0
IsCertifiedAnswer first (query.Bounds lower lower_events upper upper_events) =
    (first ≡ []) × IsCertifiedSide lower lower_events × IsCertifiedSide upper upper_events
IsCertifiedAnswer first (query.Impossible d) = first ≡ []
IsCertifiedAnswer first (query.Open cause) = ⊥

-- ---- beside a run
-- what a run that ends so leaves of a side of its query: the run's side with its events, or the cause for which phase one is open
abbrev pub IsLeftBy : QueryAnswer → ClaimKind → SideAnswer → List Event → Type 0
IsLeftBy (query.Bounds lower lower_events upper upper_events) Nothing a events = ⊥
IsLeftBy (query.Bounds lower lower_events upper upper_events) Lower a events = (a ≡ lower) × (events ≡ lower_events)
IsLeftBy (query.Bounds lower lower_events upper upper_events) Upper a events = (a ≡ upper) × (events ≡ upper_events)
IsLeftBy (query.Impossible d) kind a events = ⊥
IsLeftBy (query.Open cause) kind a events = (a ≡ side.Open cause) × (events ≡ [])

-- a side beside a run that ends so: it has its certificate, or is what the run leaves of it
abbrev pub IsBesideRun : QueryAnswer → ClaimKind → SideAnswer → List Event → Type 0
IsBesideRun run kind a events = IsCertifiedSide a events ⊎ IsLeftBy run kind a events

-- both sides of a query, each with its events, beside a lawful run of it, with the events of the run's phase one
pub record AreBesideRun (s : Subject) (limits : Limits) (first : List Event) (lower upper : SideAnswer × List Event)
    : Type 0 where
  pub run : QueryAnswer
  pub lawful : IsLawfulAnswerTo s limits first run
  pub below : IsBesideRun run Lower lower.0 lower.1
  pub above : IsBesideRun run Upper upper.0 upper.1

-- an answer to a query that comes of a lawful run: that of the run, with a certified side in place of the run's, or
-- beside one that the run leaves open
abbrev pub IsOfRun : Subject → Limits → List Event → QueryAnswer → Type 0
IsOfRun s limits first (query.Bounds lower lower_events upper upper_events) =
    AreBesideRun s limits first (lower, lower_events) (upper, upper_events)
IsOfRun s limits first (query.Impossible d) = IsLawfulPhaseOne (program_of Nothing s) limits (Inconsistent d) first
IsOfRun s limits first (query.Open cause) = IsLawfulPhaseOne (program_of Nothing s) limits (Open cause) first

-- ---- answers
-- the verdict has its certificate alone, or is that of a lawful run, and where it is open that is licensed
abbrev pub IsSettledVerdict : Parts → Limits → Verdict → List Event → Type 0
IsSettledVerdict p limits v events = IsCertifiedVerdict v events ⊎ IsLawfulVerdict p limits v events

-- the part has its certificates alone, or comes of a lawful run, which licenses what is open in it
abbrev pub IsSettledPart : Parts → Limits → Query → QueryPart → Type 0
IsSettledPart p limits q part =
    IsCertifiedAnswer part.first part.answer ⊎ IsOfRun (subject_of p q) limits part.first part.answer

-- so is each part of an answer
pub record IsSettledAnswer (p : Parts) (limits : Limits) (a : Answer) : Type 0 where
  pub verdict : IsSettledVerdict p limits a.verdict a.first
  pub parts : AllZip (IsSettledPart p limits) (asked_after a.verdict p.queries) a.parts
