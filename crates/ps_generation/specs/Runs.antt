-- The phases of a run: what each answers, and how the run goes on behind it.
use Rattle.std.specs.Prelude.{◌≡◌, ◌+◌, ◌≤◌, ◌++◌, ℕ, Bool, false, Option, Some, List, [], length}
use Rattle.ps_meaning.specs.Formula.{World}
use Rattle.ps_simplex.specs.Rule.{IsFeasible}
use Rattle.ps_table.specs.declared.event.Event.{Event}
use Rattle.ps_problem.specs.declared.query.Query.{Query}
use Rattle.ps_problem.specs.Problems.{Parts, bounds_of}
use Rattle.ps_table.specs.Tableau.{Tableau, entry_at}
use Rattle.ps_bland.specs.Rules.{simplex_of}
use Rattle.ps_answer.specs.declared.answer.Dual.{Dual}
use Rattle.ps_answer.specs.declared.answer.Verdict.{Verdict}
use Rattle.ps_answer.specs.declared.answer.Verdict.TheVariants as verdict
use Rattle.ps_answer.specs.declared.answer.SideAnswer.{SideAnswer}
use Rattle.ps_answer.specs.declared.answer.SideAnswer.TheVariants as side
use Rattle.ps_claims.specs.Queries.{IsAllowed}
use Rattle.ps_claims.specs.Answers.{ShowsConsistent}
use Rattle.ps_claims.specs.declared.claim_kind.ClaimKind.{ClaimKind}
use Rattle.ps_claims.specs.declared.claim_kind.ClaimKind.TheVariants.{Nothing}
use Rattle.ps_claims.specs.Duals.{AreZeroElsewhere}
use Rattle.ps_claims.specs.Validity.{IsRefuted, ShowsNothing, ShowsTight}
use Rattle.ps_runs.specs.Subjects.{Subject, setting_of, given_in, both_in, atoms_of, frame_of, program_of}
use Rattle.ps_runs.specs.Subjects.{frame_of, program_of}
use Rattle.ps_runs.specs.Runs.{Stage, IsStart, LeadsTo, pivots_in, IsFeasibleAt}
use Rattle.ps_claims.specs.Certificates.{model_of, dual_of}
use Rattle.ps_runs.specs.Tables.{stage_at}
use Rattle.ps_runs.specs.Verdicts.{IsLawfulPhaseOne, IsLawfulSide}
use Rattle.ps_claims.specs.Printed.{IsPrintedVerdict}
use Rattle.ps_runs.specs.declared.limits.Limits.{Limits}
use Rattle.ps_generation.specs.Counts.{AppendsFewPivots}
use Rattle.ps_generation.specs.Phases.{LimitedSubject, limited, asking, kept_dual}
use Rattle.ps_generation.specs.declared.first.First.{First}
use Rattle.ps_generation.specs.declared.first.First.TheVariants as first

-- ---- runs
-- a run: what it is over, and where it stands; the events that were not yet taken, how many pivots are left, and whether memory
-- ran out
pub record RunState : Type 0 where
  pub over : LimitedSubject
  pub pool : List World
  pub table : Tableau
  pub trace : List Event
  pub left : ℕ
  pub is_broken : Bool

-- the stage at which it stands
abbrev pub stage_of : RunState → Stage
stage_of r = stage_at r.pool r.table

-- a run at its start: the homes are basic, there is no world, and all pivots are left
pub record IsAtStart (r : RunState) : Type 0 where
  pub start : IsStart (frame_of r.over.subject) (stage_of r)
  pub left : r.left ≡ r.over.limits.pivots

-- a new run over the kept sentences of a problem, by a truth value for each, and a query, or none
pub record IsNew (p : Parts) (kept : List Bool) (query : Option Query) (limits : Limits) (r : RunState) : Type 0 where
  pub over : r.over ≡ limited p kept query limits
  pub start : IsAtStart r
  pub trace : r.trace ≡ []
  pub broken : r.is_broken ≡ false

-- the same run with this query, and no events
abbrev pub run_asking : Query → RunState → RunState
run_asking q r = record r { over = asking q r.over; trace = [] }

-- a run whose basic artificials have value 0, with at most so many worlds more than pivots that were made
pub record IsFeasibleRun (surplus : ℕ) (r : RunState) : Type 0 where
  pub feasible : IsFeasible (simplex_of r.table)
  pub room : length r.pool + r.left ≤ r.over.limits.pivots + surplus

-- phase one has reached a distribution, so that a side may follow
pub record IsReached (r : RunState) : Type 0 where
  pub feasible : IsFeasibleRun 1 r

-- a side was answered, so that another may follow
pub record IsLowered (r : RunState) : Type 0 where
  pub feasible : IsFeasibleRun 2 r

-- a phase appends fewer pivots to the trace than there are ways to choose r + 1 things out of r + m + 1, with r rows and m worlds
abbrev pub MakesFewPivots : RunState → RunState → Type 0
MakesFewPivots old new = AppendsFewPivots old.over.subject new.pool old.trace new.trace

-- the run is over the same, and these events are behind those not yet taken
pub record HasTraced (old new : RunState) (events : List Event) : Type 0 where
  pub over : new.over ≡ old.over
  pub appended : new.trace ≡ old.trace ++ events

-- ---- duals
-- the dual has a multiplier for each bound of the whole problem, and 0 for each that isn't kept, and is refuted over all
pub record IsOfTheWhole (over : LimitedSubject) (kind : ClaimKind) (d : Dual) : Type 0 where
  pub others : AreZeroElsewhere over.flags d.rows
  pub refuted : IsRefuted over.whole kind (given_in over.subject.query) (both_in over.subject.query) (dual_of d)

-- ---- phase one
-- what it answers, with the multipliers of the kept bounds alone
abbrev pub kept_first : List Bool → First → First
kept_first flags (first.Reached m) = first.Reached m
kept_first flags (first.Nothing d) = first.Nothing (kept_dual flags d)
kept_first flags (first.Open cause) = first.Open cause

-- its dual is one of the whole problem
abbrev pub IsWholeFirst : LimitedSubject → First → Type 0
IsWholeFirst over (first.Reached m) = Unit {0}
IsWholeFirst over (first.Nothing d) = IsOfTheWhole over Nothing d
IsWholeFirst over (first.Open cause) = Unit {0}

-- what it answers, as a verdict
abbrev pub verdict_of : First → Verdict
verdict_of (first.Reached m) = verdict.Consistent m
verdict_of (first.Nothing d) = verdict.Inconsistent d
verdict_of (first.Open cause) = verdict.Open cause

-- a distribution meets the bounds and gives the evidence a positive probability, or none does
abbrev pub IsValidFirst : Subject → First → Type 0
IsValidFirst s (first.Reached m) = ShowsConsistent (atoms_of s) (bounds_of s.parts) (model_of m)
    × IsAllowed (atoms_of s) (bounds_of s.parts) (setting_of s).query.evidence (model_of m).worlds
IsValidFirst s (first.Nothing d) = ShowsNothing s.parts (given_in s.query) (dual_of d)
IsValidFirst s (first.Open cause) = Unit {0}

-- the events have led to a table whose basic artificials have value 0
pub record HasReached (old new : RunState) (events : List Event) : Type 0 where
  pub leads : LeadsTo (program_of Nothing old.over.subject) old.over.limits.conflicts (stage_of old) events (stage_of new)
  pub counted : new.left + pivots_in events ≡ old.left
  pub feasible : IsFeasibleAt (frame_of old.over.subject) (stage_of new) (entry_at new.table)
  pub reached : IsReached new

-- where a distribution was reached, a query's sides go on from there
abbrev pub GoesOn : RunState → RunState → List Event → First → Type 0
GoesOn old new events (first.Reached m) = HasReached old new events
GoesOn old new events (first.Nothing d) = Unit {0}
GoesOn old new events (first.Open cause) = Unit {0}

-- what phase one answers: lawful events lead to it, it is valid over the kept sentences, and its dual is one of the whole
pub record IsPhaseOneAnswer (old new : RunState) (answer : First) : Type 0 where
  pub events : List Event
  pub traced : HasTraced old new events
  pub lawful : IsLawfulPhaseOne (program_of Nothing old.over.subject) old.over.limits
      (verdict_of (kept_first old.over.flags answer)) events
  pub valid : IsValidFirst old.over.subject (kept_first old.over.flags answer)
  pub whole : IsWholeFirst old.over answer
  pub goes_on : GoesOn old new events answer

-- what phase one answers can be printed
abbrev pub IsPrintedFirst : First → Type 0
IsPrintedFirst answer = IsPrintedVerdict (verdict_of answer)

-- ---- sides
-- what a side answers, with the multipliers of the kept bounds alone
abbrev pub kept_side : List Bool → SideAnswer → SideAnswer
kept_side flags (side.Bound value m d) = side.Bound value m (kept_dual flags d)
kept_side flags (side.Open cause) = side.Open cause

-- its dual is one of the whole problem
abbrev pub IsWholeSide : ClaimKind → LimitedSubject → SideAnswer → Type 0
IsWholeSide kind over (side.Bound value m d) = IsOfTheWhole over kind d
IsWholeSide kind over (side.Open cause) = Unit {0}

-- the value is tight for the query
abbrev pub IsValidSide : ClaimKind → Parts → Query → SideAnswer → Type 0
IsValidSide kind p q (side.Bound value m d) = ShowsTight p kind q value (model_of m) (dual_of d)
IsValidSide kind p q (side.Open cause) = Unit {0}

-- what a side answers: lawful events lead to it, it is valid over the kept sentences, and its dual is one of the whole
pub record IsSideAnswerOf (kind : ClaimKind) (old new : RunState) (answer : SideAnswer) : Type 0 where
  pub events : List Event
  pub traced : HasTraced old new events
  pub lawful : IsLawfulSide (program_of kind old.over.subject) old.over.limits (stage_of old, old.left)
      (stage_of new, new.left) (kept_side old.over.flags answer, events)
  pub valid : (q : Query) → old.over.subject.query ≡ Some q
      → IsValidSide kind old.over.subject.parts q (kept_side old.over.flags answer)
  pub whole : IsWholeSide kind old.over answer
