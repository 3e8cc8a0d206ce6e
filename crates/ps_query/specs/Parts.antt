-- What is found of a query.
use Rattle.std.specs.Prelude.{◌≡◌, ℕ, Bool, Option, Some, None, List, []}
use Rattle.std.specs.List.{AllZip}
use Rattle.ps_problem.specs.declared.query.Query.{Query}
use Rattle.ps_problem.specs.Problems.{Parts}
use Rattle.ps_table.specs.declared.event.Event.{Event}
use Rattle.ps_answer.specs.declared.answer.QueryAnswer.{QueryAnswer}
use Rattle.ps_answer.specs.declared.answer.QueryAnswer.TheVariants as query
use Rattle.ps_answer.specs.declared.answer.QueryPart.{QueryPart}
use Rattle.ps_answer.specs.declared.answer.SideAnswer.{SideAnswer}
use Rattle.ps_answer.specs.declared.answer.Model.{Model}
use Rattle.ps_answer.specs.declared.answer.Verdict.{Verdict}
use Rattle.ps_answer.specs.declared.answer.Verdict.TheVariants as verdict
use Rattle.ps_claims.specs.declared.claim_kind.ClaimKind.TheVariants.{Lower, Upper}
use Rattle.ps_claims.specs.Validity.{IsValidVerdict, IsValidPart}
use Rattle.ps_valid.specs.Answers.{part_of, verdict_of as claimed_verdict}
use Rattle.ps_runs.specs.Kept.{AreAllKept}
use Rattle.ps_runs.specs.Subjects.{program_of}
use Rattle.ps_runs.specs.Runs.{Stage}
use Rattle.ps_runs.specs.Verdicts.{IsLawfulSide, IsLawfulVerdict, IsLawfulPart, asked_after}
use Rattle.ps_claims.specs.Printed.{IsPrintedPart, IsPrintedVerdict}
use Rattle.ps_runs.specs.declared.limits.Limits.{Limits}
use Rattle.ps_generation.specs.declared.first.First.{First}
use Rattle.ps_generation.specs.declared.first.First.TheVariants as first
use Rattle.ps_generation.specs.Runs.{RunState, stage_of, IsAtStart, IsPhaseOneAnswer, IsReached}
use Rattle.ps_generation.specs.Runs.{IsValidSide, IsWholeSide, kept_side}

-- a new run over all sentences of a problem, and a query, or none
pub record IsNewOverAll (p : Parts) (query : Option Query) (limits : Limits) (r : RunState) : Type 0 where
  pub flags : List Bool
  pub all : AreAllKept flags
  pub over : r.over ≡ record { whole = p; flags = flags; subject = record { parts = p; query = query }; limits = limits }
  pub start : IsAtStart r
  pub trace : r.trace ≡ []

-- both sides of the run's query, the upper one from where the lower one ended
pub record AreSidesOf (r : RunState) (lower : SideAnswer) (lower_events : List Event) (upper : SideAnswer)
    (upper_events : List Event) : Type 0 where
  pub after_lower : Stage
  pub left_lower : ℕ
  pub least : IsLawfulSide (program_of Lower r.over.subject) r.over.limits (stage_of r, r.left)
      (after_lower, left_lower) (kept_side r.over.flags lower, lower_events)
  pub end : Stage
  pub left : ℕ
  pub greatest : IsLawfulSide (program_of Upper r.over.subject) r.over.limits (after_lower, left_lower)
      (end, left) (kept_side r.over.flags upper, upper_events)
  pub valid_lower : (q : Query) → r.over.subject.query ≡ Some q
      → IsValidSide Lower r.over.subject.parts q (kept_side r.over.flags lower)
  pub valid_upper : (q : Query) → r.over.subject.query ≡ Some q
      → IsValidSide Upper r.over.subject.parts q (kept_side r.over.flags upper)
  pub whole_lower : IsWholeSide Lower r.over lower
  pub whole_upper : IsWholeSide Upper r.over upper

-- the answer is of both sides
abbrev pub AreBoundsOf : RunState → QueryAnswer → Type 0
AreBoundsOf r (query.Bounds lower lower_events upper upper_events) = AreSidesOf r lower lower_events upper upper_events
AreBoundsOf r (query.Impossible d) = ⊥
AreBoundsOf r (query.Open cause) = ⊥

-- where phase one reached a distribution, a side may follow
abbrev pub MayGoOn : First → RunState → Type 0
MayGoOn (first.Reached m) r = IsReached r
MayGoOn (first.Nothing d) r = Unit {0}
MayGoOn (first.Open cause) r = Unit {0}

-- what is answered behind phase one: both sides where it reached a distribution, and else how it ended
abbrev pub IsBehind : RunState → First → QueryAnswer → Type 0
IsBehind r (first.Reached m) answer = AreBoundsOf r answer
IsBehind r (first.Nothing d) answer = answer ≡ query.Impossible d
IsBehind r (first.Open cause) answer = answer ≡ query.Open cause

-- the verdict, from a run without a query
pub record IsVerdictOf (limits : Limits) (p : Parts) (verdict : Verdict) (first : List Event) : Type 0 where
  pub lawful : IsLawfulVerdict p limits verdict first
  pub valid : IsValidVerdict p (claimed_verdict verdict)
  pub printed : IsPrintedVerdict verdict

-- the answer to a query, from a run of its own
pub record IsPartOf (limits : Limits) (p : Parts) (q : Query) (part : QueryPart) : Type 0 where
  pub lawful : IsLawfulPart p limits q part
  pub valid : IsValidPart p q (part_of part.answer)
  pub printed : IsPrintedPart part.answer

-- the answer to the query of a run at its start, where that is over all sentences of a problem
abbrev pub IsPartOfRun : RunState → QueryPart → Type 0
IsPartOfRun r part = (p : Parts) → (q : Query) → (limits : Limits) → IsNewOverAll p (Some q) limits r → IsPartOf limits p q part

-- both sides of the run's query, behind these events
pub record AreBoundsBehind (r : RunState) (first : List Event) (part : QueryPart) : Type 0 where
  pub bounds : AreBoundsOf r part.answer
  pub printed : IsPrintedPart part.answer
  pub behind : part.first ≡ first

-- a run without a query has reached a distribution by these events, which were taken
pub record HasReachedAlone (limits : Limits) (p : Parts) (events : List Event) (r : RunState) : Type 0 where
  pub new : RunState
  pub done : RunState
  pub model : Model
  pub is_new : IsNewOverAll p None limits new
  pub answered : IsPhaseOneAnswer new done (first.Reached model)
  pub taken : r ≡ record done { trace = [] }
  pub trace : events ≡ done.trace

-- a consistent verdict comes of a run that has reached a distribution by these events
abbrev pub ComesOf : Limits → Parts → Verdict → List Event → RunState → Type 0
ComesOf limits p (verdict.Consistent m) events r = HasReachedAlone limits p events r
ComesOf limits p (verdict.Inconsistent d) events r = Unit {0}
ComesOf limits p (verdict.Open cause) events r = Unit {0}

-- what phase one of a run without a query leads to, over all sentences of a problem: the verdict, and the run behind it
pub record IsOpening (old new : RunState) (v : Verdict) (first : List Event) : Type 0 where
  pub verdict : (limits : Limits) → (p : Parts) → IsNewOverAll p None limits old → IsVerdictOf limits p v first
  pub run : (limits : Limits) → (p : Parts) → IsNewOverAll p None limits old → ComesOf limits p v first new

-- a part for each query of a problem that is asked behind this verdict
abbrev pub ArePartsUnder : Limits → Parts → Verdict → List QueryPart → Type 0
ArePartsUnder limits p verdict parts = AllZip (IsPartOf limits p) (asked_after verdict p.queries) parts
