-- A run as its struct keeps it.
use Rattle.std.specs.Prelude.{◌≡◌, ◌+◌, ◌≤◌, Bool, false, Result, Ok, Err, length}
use Rattle.ps_simplex.specs.Rule.{IsFeasible}
use Rattle.ps_bland.specs.Rules.{simplex_of}
use Rattle.ps_table.specs.declared.place.WideAt.{WideAt}
use Rattle.ps_table.specs.Places.{IsWideAt}
use Rattle.ps_answer.specs.declared.answer.Cause.TheVariants.{Wide}
use Rattle.ps_answer.specs.declared.answer.Dual.{Dual}
use Rattle.ps_answer.specs.declared.answer.Model.{Model}
use Rattle.ps_answer.specs.declared.answer.SideAnswer.{SideAnswer}
use Rattle.ps_answer.specs.declared.answer.SideAnswer.TheVariants as side
use Rattle.ps_claims.specs.declared.claim_kind.ClaimKind.{ClaimKind}
use Rattle.ps_claims.specs.declared.claim_kind.ClaimKind.TheVariants.{Nothing}
use Rattle.ps_claims.specs.Duals.{HasValueHead}
use Rattle.ps_generation.specs.Multiples.{ModelPlaces}
use Rattle.ps_runs.specs.Subjects.{Subject, IsAsked, atoms_of, frame_of}
use Rattle.ps_runs.specs.Runs.{IsPool}
use Rattle.ps_claims.specs.Certificates.{dual_of}
use Rattle.ps_runs.specs.Tables.{IsRunTable}
use Rattle.ps_generation.specs.Models.{IsTableModel}
use Rattle.ps_runs.specs.declared.state.State.{State}
use Rattle.ps_generation.specs.Phases.{AreLimits, LimitedSubject}
use Rattle.ps_generation.specs.declared.first.First.{First}
use Rattle.ps_generation.specs.Runs.{RunState, IsPhaseOneAnswer, IsSideAnswerOf}

-- a run by what it is over, its state, and whether memory ran out
abbrev pub run_of : LimitedSubject → State → Bool → RunState
run_of over state broken = record {
  over = over;
  pool = state.pool;
  table = state.table;
  trace = state.trace;
  left = state.left;
  is_broken = broken;
}

-- what phase one answers, from one state to another, while memory lasts
abbrev pub AnswersPhaseOne : LimitedSubject → State → State → First → Type 0
AnswersPhaseOne over old new answer = IsPhaseOneAnswer (run_of over old false) (run_of over new false) answer

-- what a side answers, from one state to another, while memory lasts
abbrev pub AnswersSide : ClaimKind → LimitedSubject → State → State → SideAnswer → Type 0
AnswersSide kind over old new answer = IsSideAnswerOf kind (run_of over old false) (run_of over new false) answer

-- table and pool are those of a run
pub record HasRunTable (s : Subject) (state : State) : Type 0 where
  pub table : IsRunTable (frame_of s) state.pool state.table
  pub pool_kept : IsPool (atoms_of s) state.pool

-- the nodes of the query are there, the limits are such as words may set, and unless memory ran out so are table and pool
pub record IsRun (over : LimitedSubject) (state : State) (broken : Bool) : Type 0 where
  pub asked : IsAsked Nothing over.subject.parts over.subject.query
  pub limits : AreLimits over.limits
  pub there : broken ≡ false → HasRunTable over.subject state

-- the distribution of the state's table, or the place at which a number of it is too wide
abbrev pub IsModelOrWide : State → Result Model WideAt → Type 0
IsModelOrWide state (Ok m) = IsTableModel state.table state.pool m
IsModelOrWide state (Err at) = IsWideAt (ModelPlaces state.table) at

-- the value that a dual shows, with the distribution of the state's table, unless a number of it is too wide
abbrev pub IsBoundOf : State → Dual → SideAnswer → Type 0
IsBoundOf state d (side.Bound value m shown_by) =
    IsTableModel state.table state.pool m × (shown_by ≡ d) × HasValueHead value (dual_of d)
IsBoundOf state d (side.Open (Wide at)) = IsWideAt (ModelPlaces state.table) at
IsBoundOf state d (side.Open cause) = ⊥

-- a side has gone on: the table is still feasible, and there is as much room as before but for one world
pub record HasGoneOn (old new : RunState) : Type 0 where
  pub feasible : IsFeasible (simplex_of new.table)
  pub room : length new.pool + new.left ≤ length old.pool + old.left + 1
