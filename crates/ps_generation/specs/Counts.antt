-- How many pivots a phase makes at most.
use Rattle.std.specs.Prelude.{◌≡◌, ℕ, suc, ◌+◌, ◌^◌, ◌<◌, List, length, ◌++◌}
use Rattle.ps_meaning.specs.Formula.{World}
use Rattle.ps_simplex.specs.Count.{choose}
use Rattle.ps_table.specs.declared.event.Event.{Event}
use Rattle.ps_runs.specs.Rows.{rows_of}
use Rattle.ps_runs.specs.Subjects.{Subject, setting_of, atoms_of}
use Rattle.ps_runs.specs.Runs.{pivots_in}
use Rattle.ps_runs.specs.declared.state.State.{State}

-- between two rests of its table a phase makes fewer pivots than there are ways to choose the basic columns
pub record SettlesInFewerThanBases (s : Subject) (old new : State) : Type 0 where
  pub fewer : old.left < new.left + choose (rows_of (setting_of s) + length old.pool) (rows_of (setting_of s))

-- the bound on the pivots of a phase with r rows and m worlds: the ways to choose r + 1 things out of r + m + 1
abbrev pub pivot_bound : ℕ → ℕ → ℕ
pivot_bound r m = choose (suc (r + m)) (suc r)

-- of so many pivots that were left at its start a phase has made fewer than the bound for the worlds of its pool
pub record IsBelowBound (s : Subject) (had : ℕ) (state : State) : Type 0 where
  pub below : had < state.left + pivot_bound (rows_of (setting_of s)) (length state.pool)

-- a phase that was below the bound is so still
pub record StaysBelowBound (s : Subject) (old new : State) : Type 0 where
  pub stays : (had : ℕ) → IsBelowBound s had old → IsBelowBound s had new

-- the events behind a trace have fewer pivots than the bound for r rows and m worlds
abbrev pub HasFewerPivots : ℕ → ℕ → List Event → List Event → Type 0
HasFewerPivots r m trace longer = (events : List Event) → longer ≡ trace ++ events → pivots_in events < pivot_bound r m

-- the events that a phase appends have fewer pivots than the bound for the worlds of its pool, and for all worlds of the atoms
pub record AppendsFewPivots (s : Subject) (pool : List World) (trace longer : List Event) : Type 0 where
  pub in_pool : HasFewerPivots (rows_of (setting_of s)) (length pool) trace longer
  pub in_all : HasFewerPivots (rows_of (setting_of s)) (2 ^ atoms_of s) trace longer

-- a phase makes few pivots from one state to another
abbrev pub MakesFewPivots : Subject → State → State → Type 0
MakesFewPivots s old new = AppendsFewPivots s new.pool old.trace new.trace
