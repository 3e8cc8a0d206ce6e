-- What a phase does between two rests of its table: a pricing, and the pivots that follow.
use Rattle.std.specs.Prelude.{◌≡◌, suc, ◌+◌, ◌<◌, ◌≤◌, length, Option, Some, None}
use Rattle.ps_simplex.specs.Rule.{IsMoving}
use Rattle.ps_meaning.specs.Formula.{World}
use Rattle.ps_table.specs.declared.costs.Costs.{Costs}
use Rattle.ps_table.specs.Tableau.{Tableau, entry_at}
use Rattle.ps_table.specs.Pricing.{cost_at}
use Rattle.ps_bland.specs.Rules.{simplex_of}
use Rattle.ps_bland.specs.Runs.{Ran}
use Rattle.ps_answer.specs.declared.answer.Dual.{Dual}
use Rattle.ps_claims.specs.Certificates.{dual_of}
use Rattle.ps_claims.specs.declared.claim_kind.ClaimKind.{ClaimKind}
use Rattle.ps_runs.specs.Certificates.{table_dual, HaveSameNumbers}
use Rattle.ps_runs.specs.Rows.{phase_of, entries_of, world_cost}
use Rattle.ps_runs.specs.Subjects.{Subject, setting_of, program_of}
use Rattle.ps_runs.specs.Runs.{IsRestingAt, IsPricedBy}
use Rattle.ps_runs.specs.Tables.{costs_for}
use Rattle.ps_pricing.specs.Pricings.{PricingSubject}
use Rattle.ps_generation.specs.declared.column.Column.{Column}
use Rattle.ps_runs.specs.declared.state.State.{State}
use Rattle.ps_generation.specs.declared.end.End.{End}
use Rattle.ps_generation.specs.Phases.{LimitedSubject, stage_of, HasCome, IsEnd}

-- what duals are priced over
abbrev pub pricing_subject_of : LimitedSubject → PricingSubject
pricing_subject_of r = record { subject = r.subject; conflicts = r.limits.conflicts }

-- the column of a world and its cost
pub record IsColumnOf (kind : ClaimKind) (s : Subject) (w : World) (c : Column) : Type 0 where
  pub entries : c.entries.items ≡ entries_of (setting_of s) w
  pub cost : c.cost ≡ world_cost kind (setting_of s) w

-- the dual has the numbers of the dual of a table, by the rows of the subject and these costs
abbrev pub IsDualOver : ClaimKind → Subject → Tableau → Costs → Dual → Type 0
IsDualOver kind s t costs d = HaveSameNumbers (dual_of d) (table_dual kind (setting_of s) (simplex_of t) (cost_at costs))

-- pivots by the rule were made and appended to the trace
abbrev pub HasPivoted : ClaimKind → Costs → State → State → Type 0
HasPivoted kind costs old new = Ran (phase_of kind) costs old.table new.table old.trace new.trace

-- the table is moving
abbrev pub IsInMotion : ClaimKind → Subject → State → Type 0
IsInMotion kind s state = IsMoving (phase_of kind) (simplex_of state.table) (cost_at (costs_for kind (setting_of s) state.pool))

-- the table is resting
abbrev pub IsAtRest : ClaimKind → Subject → State → Type 0
IsAtRest kind s state = IsRestingAt (program_of kind s) (stage_of state) (entry_at state.table)

-- the world is priced at the table
abbrev pub IsPricedIn : ClaimKind → LimitedSubject → State → World → Type 0
IsPricedIn kind r state w = IsPricedBy (program_of kind r.subject) r.limits.conflicts (stage_of state) (entry_at state.table) w

-- the table has come to rest, and not without a pivot if it was moving
pub record HasRested (kind : ClaimKind) (r : LimitedSubject) (old new : State) : Type 0 where
  pub come : HasCome kind r old new
  pub rests : IsAtRest kind r.subject new
  pub fewer : IsInMotion kind r.subject old → new.left < old.left

-- pivots until the table rests, or an end
abbrev pub IsPhaseSettled : ClaimKind → LimitedSubject → State → State → Option End → Type 0
IsPhaseSettled kind r old new None = HasRested kind r old new
IsPhaseSettled kind r old new (Some end) = IsEnd kind r old new end

-- a priced world has entered, so that the table is moving
pub record HasEntered (kind : ClaimKind) (r : LimitedSubject) (old new : State) : Type 0 where
  pub come : HasCome kind r old new
  pub moves : IsInMotion kind r.subject new
  pub pool : length new.pool ≡ suc (length old.pool)
  pub left : new.left ≡ old.left

-- a world has entered, or there is an end
abbrev pub IsEntered : ClaimKind → LimitedSubject → State → State → Option End → Type 0
IsEntered kind r old new None = HasEntered kind r old new
IsEntered kind r old new (Some end) = IsEnd kind r old new end

-- a world has entered, and with fewer pivots left the table has come to rest again
pub record HasGoneRound (kind : ClaimKind) (r : LimitedSubject) (old new : State) : Type 0 where
  pub come : HasCome kind r old new
  pub rests : IsAtRest kind r.subject new
  pub fewer : new.left < old.left
  pub room : length new.pool + new.left ≤ length old.pool + old.left

-- a round, or an end
abbrev pub IsRound : ClaimKind → LimitedSubject → State → State → Option End → Type 0
IsRound kind r old new None = HasGoneRound kind r old new
IsRound kind r old new (Some end) = IsEnd kind r old new end
