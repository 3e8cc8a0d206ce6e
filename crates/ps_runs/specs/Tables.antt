-- The tables of a run as the solver keeps them, and how far a phase has come.
use Rattle.std.specs.Prelude.{◌≡◌, ◌+◌, ◌++◌, ℕ, List, map, length}
use Rattle.ps_meaning.specs.Formula.{World}
use Rattle.ps_table.specs.declared.event.Event.{Event}
use Rattle.ps_table.specs.declared.costs.Costs.{Costs}
use Rattle.ps_table.specs.Tableau.{Tableau, IsTableau, IsTableFor, basic_at}
use Rattle.ps_bland.specs.Ready.{HasNoNegativeValue}
use Rattle.ps_claims.specs.declared.claim_kind.ClaimKind.{ClaimKind}
use Rattle.ps_runs.specs.Rows.{Setting, artificial_rows, home_cost, world_cost}
use Rattle.ps_runs.specs.declared.state.State.{State}
use Rattle.ps_runs.specs.Programs.{Frame, Program}
use Rattle.ps_runs.specs.Runs.{Stage, IsPool, LeadsTo, pivots_in}

-- the costs of a phase
abbrev pub costs_for : ClaimKind → Setting → List World → Costs
costs_for kind s pool = record { homes = map (home_cost kind) (artificial_rows s); worlds = map (world_cost kind s) pool }

-- the table is one of the rows and the pool's worlds
pub record IsRunTable (f : Frame) (pool : List World) (t : Tableau) : Type 0 where
  pub kinds : t.kinds ≡ f.homes
  pub worlds : t.worlds ≡ length pool
  pub entries : t.entries ≡ map f.entries pool
  pub tableau : IsTableau t
  pub stands : IsTableFor (f.system pool).columns t
  pub values : HasNoNegativeValue t

-- where a run stands: its table, the worlds of its columns, the events that were not yet taken, and how many pivots are left
abbrev pub standing : List World → Tableau → List Event → ℕ → State
standing pool t trace left = record { table = t; pool = pool; trace = trace; left = left }

-- the stage at which a table stands
abbrev pub stage_at : List World → Tableau → Stage
stage_at pool t = record { pool = pool; basis = basic_at t }

-- a phase is under way: behind these events others have led from a stage, with so many pivots left there, to where the run stands
pub record IsUnderWay (p : Program) (conflicts : ℕ) (from : Stage) (had : ℕ) (before : List Event) (now : State) : Type 0 where
  pub table : IsRunTable p.frame now.pool now.table
  pub pool_kept : IsPool p.atoms now.pool
  pub events : List Event
  pub appended : now.trace ≡ before ++ events
  pub leads : LeadsTo p conflicts from events (stage_at now.pool now.table)
  pub counted : now.left + pivots_in events ≡ had
