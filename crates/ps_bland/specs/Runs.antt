-- Lawful pivots one after the other.
use Rattle.std.specs.Prelude.{◌≡◌, ℕ, ◌+◌, ◌<◌, List, [], ◌∷◌, ◌++◌, length}
use Rattle.ps_meaning.specs.Rational.{Rational}
use Rattle.ps_simplex.specs.Pivots.{linear_program, System, Pivot as BasisPivot, Pivots}
use Rattle.ps_simplex.specs.Count.{choose}
use Rattle.ps_simplex.specs.Cycle.{NoBasisTwice}
use Rattle.ps_table.specs.declared.home.Home.{Home}
use Rattle.ps_table.specs.declared.col.Col.{Col}
use Rattle.ps_table.specs.declared.costs.Costs.{Costs}
use Rattle.ps_table.specs.Tableau.{Tableau, number_in, rows_of, width_of, basic_at, IsPivot, IsTableFor, KeepsSystem}
use Rattle.ps_table.specs.Pricing.{cost_at}
use Rattle.ps_table.specs.declared.event.Event.{Event}
use Rattle.ps_table.specs.declared.event.Event.TheVariants.{Pivot, Priced}
use Rattle.ps_simplex.specs.declared.phase.Phase.{Phase}
use Rattle.ps_bland.specs.Rules.{artificial_at, IsLawful}

-- lawful pivots lead from s to t
pub data Run (phase : Phase) (costs : Costs) : Tableau → List Event → Tableau → Type 0 where
  still : (s : Tableau) → Run phase costs s [] s
  more : (s t u : Tableau) (events : List Event) (enter : Col) (leave : ℕ) → Run phase costs s events t
      → IsLawful phase costs t enter leave → IsPivot leave enter t u → KeepsSystem t u
      → Run phase costs s (events ++ Pivot enter leave ∷ []) u

-- the pivots among the events of a table of n rows
abbrev pub pivots_of : ℕ → List Event → List BasisPivot
pivots_of n [] = []
pivots_of n (Pivot enter leave ∷ events) = record { enter = number_in n enter; leave = leave } ∷ pivots_of n events
pivots_of n (Priced world ∷ events) = pivots_of n events

-- rows and columns of which the homes are of these kinds
abbrev pub system_of : List Home → (ℕ → ℕ → Rational) → System
system_of kinds A = record { rows = length kinds; artificial = artificial_at kinds; columns = A }

-- for all columns that the table stands for, the events are lawful pivots of its system
abbrev pub ArePivots : Phase → Costs → Tableau → List Event → Tableau → Type 0
ArePivots phase costs s events t = (A : ℕ → ℕ → Rational) → IsTableFor A s
    → IsTableFor A t × Pivots (linear_program phase (system_of s.kinds A) (cost_at costs) (width_of s)) (basic_at s)
    (pivots_of (rows_of s) events) (basic_at t)

-- pivots were made and appended to the trace
pub record Ran (phase : Phase) (costs : Costs) (old new : Tableau) (trace longer : List Event) : Type 0 where
  pub events : List Event
  pub run : Run phase costs old events new
  pub lawful : ArePivots phase costs old events new
  pub appended : longer ≡ trace ++ events

-- from the old table on the appended pivots meet no basis twice, not even with the same columns in other rows
pub record MeetsNoBasisTwice (phase : Phase) (costs : Costs) (old : Tableau) (trace longer : List Event) : Type 0 where
  pub none : (events : List Event) → longer ≡ trace ++ events → (A : ℕ → ℕ → Rational) → IsTableFor A old
      → NoBasisTwice phase (system_of old.kinds A) (cost_at costs) (width_of old) (basic_at old) (pivots_of (rows_of old) events)

-- fewer pivots were made than there are ways to choose the basic columns of a table that stands for some columns
pub record MadeFewerThanBases (old : Tableau) (had left : ℕ) : Type 0 where
  pub fewer : (A : ℕ → ℕ → Rational) → IsTableFor A old → had < left + choose (rows_of old + old.worlds) (rows_of old)
