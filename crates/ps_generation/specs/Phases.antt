-- How a phase of a run goes to its end, from one state of the solver to another.
use Rattle.std.specs.Prelude.{◌≡◌, ◌≢◌, ◌+◌, ◌≤◌, ℕ, pos, Bool, Option, Some, List, [], length}
use Rattle.ps_problem.specs.declared.query.Query.{Query}
use Rattle.ps_problem.specs.Problems.{Parts}
use Rattle.ps_claims.specs.Duals.{AreZeroElsewhere}
use Rattle.ps_claims.specs.Validity.{IsRefuted}
use Rattle.ps_runs.specs.Kept.{kept_of, flags_of, kept_parts}
use Rattle.ps_meaning.specs.Rational.{Rational}
use Rattle.ps_simplex.specs.Rule.{IsFeasible}
use Rattle.ps_answer.specs.declared.limits.TheConstants.{MOST_PIVOTS}
use Rattle.ps_log.specs.declared.limits.TheConstants.{MOST_CONFLICTS}
use Rattle.ps_table.specs.declared.costs.Costs.{Costs}
use Rattle.ps_table.specs.declared.error.TableError.{TableError}
use Rattle.ps_table.specs.declared.error.TableError.TheVariants as refused
use Rattle.ps_table.specs.Tableau.{entry_at}
use Rattle.ps_bland.specs.Rules.{simplex_of, IsDueToEndIn}
use Rattle.ps_bland.specs.Ready.{IsReady}
use Rattle.ps_answer.specs.declared.answer.Cause.{Cause}
use Rattle.ps_answer.specs.declared.answer.Cause.TheVariants.{Wide}
use Rattle.ps_answer.specs.declared.answer.Dual.{Dual}
use Rattle.ps_claims.specs.declared.claim_kind.ClaimKind.{ClaimKind}
use Rattle.ps_claims.specs.declared.claim_kind.ClaimKind.TheVariants.{Nothing}
use Rattle.ps_runs.specs.Certificates.{HaveSameNumbers}
use Rattle.ps_runs.specs.Programs.{Program, RefutesGain}
use Rattle.ps_runs.specs.Subjects.{Subject, setting_of, given_in, both_in, atoms_of, frame_of, program_of}
use Rattle.ps_runs.specs.Runs.{Stage, IsStart, IsPool, dual_at, AreAtMost, IsRestingAt}
use Rattle.ps_claims.specs.Certificates.{dual_of}
use Rattle.ps_runs.specs.Rows.{phase_of}
use Rattle.ps_runs.specs.Tables.{costs_for, IsRunTable, stage_at, IsUnderWay}
use Rattle.ps_runs.specs.Licences.{IsLicensed}
use Rattle.ps_claims.specs.Printed.{IsPrintedDual, IsPrintedCause}
use Rattle.ps_runs.specs.declared.limits.Limits.{Limits}
use Rattle.ps_runs.specs.declared.state.State.{State}
use Rattle.ps_generation.specs.declared.end.End.{End}
use Rattle.ps_generation.specs.declared.end.End.TheVariants.{Feasible, NoneAbove, Open}

-- ---- what a run is over
-- the limits are those that words may set, or less
pub record AreLimits (limits : Limits) : Type 0 where
  pub pivots : limits.pivots ≤ MOST_PIVOTS
  pub conflicts : limits.conflicts ≤ MOST_CONFLICTS

-- the kept sentences of a problem with a query, or none, and the limits of its run; the whole problem, and whether each of its
-- bounds is kept
pub record LimitedSubject : Type 0 where
  pub whole : Parts
  pub flags : List Bool
  pub subject : Subject
  pub limits : Limits

-- the kept sentences of a problem with a query, or none
abbrev pub limited : Parts → List Bool → Option Query → Limits → LimitedSubject
limited p kept query limits = record {
  whole = p;
  flags = flags_of kept p.sentences;
  subject = record { parts = kept_parts kept p; query = query };
  limits = limits;
}

-- the same with this query
abbrev pub asking : Query → LimitedSubject → LimitedSubject
asking q r = record {
  whole = r.whole;
  flags = r.flags;
  subject = record { parts = r.subject.parts; query = Some q };
  limits = r.limits;
}

-- ---- duals of the whole problem
-- the multipliers of the kept bounds
abbrev pub kept_dual : List Bool → Dual → Dual
kept_dual flags d = record { top = d.top; head = d.head; rows = kept_of flags d.rows; steps = d.steps }

-- a dual of the kept bounds as one of the whole problem: the others have multiplier 0, and what it refutes it refutes over all
pub record IsSpread (r : LimitedSubject) (e d : Dual) : Type 0 where
  pub numbers : kept_dual r.flags d ≡ e
  pub others : AreZeroElsewhere r.flags d.rows
  pub refuted : (kind : ClaimKind) → IsRefuted r.subject.parts kind (given_in r.subject.query)
      (both_in r.subject.query) (dual_of e)
      → IsRefuted r.whole kind (given_in r.subject.query) (both_in r.subject.query) (dual_of d)

-- ---- states
-- the stage at which a run stands
abbrev pub stage_of : State → Stage
stage_of state = stage_at state.pool state.table

-- table, pool and costs are those of a run in this phase
pub record IsInPhase (kind : ClaimKind) (s : Subject) (costs : Costs) (state : State) : Type 0 where
  pub table : IsRunTable (frame_of s) state.pool state.table
  pub pool_kept : IsPool (atoms_of s) state.pool
  pub costs_are : costs ≡ costs_for kind (setting_of s) state.pool
  pub ready : IsReady (phase_of kind) costs state.table

-- the most worlds and pivots left, together: the pivots that a run may be allowed, and ten more, since a run prices few
-- worlds more than it pivots; so a phase has room for its columns
abbrev pub most_columns : ℕ
most_columns = MOST_PIVOTS + 10

-- worlds and pivots left are together at most so many
pub record HasRoom (state : State) : Type 0 where
  pub room : length state.pool + state.left ≤ most_columns

-- there is as much room as before but for one world
abbrev pub LeavesRoomButForOne : State → State → Type 0
LeavesRoomButForOne old new = length new.pool + new.left ≤ length old.pool + old.left + 1

-- a run at its start: the table of the homes, no world, no event, and all pivots left
pub record IsNewState (r : LimitedSubject) (state : State) : Type 0 where
  pub table : IsRunTable (frame_of r.subject) state.pool state.table
  pub start : IsStart (frame_of r.subject) (stage_of state)
  pub trace : state.trace ≡ []
  pub left : state.left ≡ r.limits.pivots

-- a phase has come from one state to another, lawfully
pub record HasCome (kind : ClaimKind) (r : LimitedSubject) (old new : State) : Type 0 where
  pub way : IsUnderWay (program_of kind r.subject) r.limits.conflicts (stage_of old) old.left old.trace new

-- ---- ends
-- the table rests, the gain of its dual is above 0 in no world, and the steps refute that it is
pub record IsDualEnd (p : Program) (g : Stage) (X : ℕ → ℕ → Rational) (d : Dual) : Type 0 where
  pub rests : IsRestingAt p g X
  pub none : AreAtMost p g X (pos 0)
  pub numbers : HaveSameNumbers (dual_of d) (dual_at p g X)
  pub steps : RefutesGain p (dual_at p g X) d.steps

-- the phase is open where it has come to, by a licence
pub record IsOpenEnd (kind : ClaimKind) (r : LimitedSubject) (old new : State) (cause : Cause) : Type 0 where
  pub come : HasCome kind r old new
  pub licensed : IsLicensed (program_of kind r.subject) r.limits (stage_of new) new.left cause

-- how a phase ends
abbrev pub IsEnd : ClaimKind → LimitedSubject → State → State → End → Type 0
IsEnd kind r old new Feasible = HasCome kind r old new × IsDueToEndIn (phase_of kind) new.table
IsEnd kind r old new (NoneAbove d) = HasCome kind r old new
    × IsDualEnd (program_of kind r.subject) (stage_of new) (entry_at new.table) d
IsEnd kind r old new (Open cause) = IsOpenEnd kind r old new cause

-- the end at a refusal: the phase is open for the number that is too wide; want of memory is no end
abbrev pub IsEndAt : TableError → End → Type 0
IsEndAt (refused.Wide at) end = end ≡ Open (Wide at)
IsEndAt refused.NoMemory end = ⊥

-- what an end shows can be printed
abbrev pub IsPrintedEnd : End → Type 0
IsPrintedEnd Feasible = Unit {0}
IsPrintedEnd (NoneAbove d) = IsPrintedDual d
IsPrintedEnd (Open cause) = IsPrintedCause cause

-- where the state is left: the table is one of the run, in a side feasible, and there is as much room as before but for one world
pub record IsLeft (kind : ClaimKind) (s : Subject) (old new : State) : Type 0 where
  pub table : IsRunTable (frame_of s) new.pool new.table
  pub pool_kept : IsPool (atoms_of s) new.pool
  pub feasible : kind ≢ Nothing → IsFeasible (simplex_of new.table)
  pub room : LeavesRoomButForOne old new
