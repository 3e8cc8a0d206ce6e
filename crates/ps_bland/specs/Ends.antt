-- How the pivots of a phase end, and which places are due.
use Rattle.std.specs.Prelude.{◌≡◌, ℕ, suc, ◌+◌, ◌<◌, true, false, Result, Ok, Err}
use Rattle.ps_frac.specs.declared.wide.Op.TheVariants.{Div}
use Rattle.ps_simplex.specs.Rule.{SimplexTable, Improves, IsMoving, IsResting, Enters, IsRising, HasNoArtificialRow}
use Rattle.ps_table.specs.declared.col.Col.{Col}
use Rattle.ps_table.specs.declared.costs.Costs.{Costs}
use Rattle.ps_table.specs.declared.place.Place.TheVariants.{Ratio}
use Rattle.ps_table.specs.declared.place.WideAt.{WideAt}
use Rattle.ps_table.specs.declared.error.TableError.{TableError}
use Rattle.ps_table.specs.declared.error.TableError.TheVariants.{Wide, NoMemory}
use Rattle.ps_table.specs.Tableau.{Tableau, rows_of, number_of, home_at, entry_at, HasColumn, HasWorld}
use Rattle.ps_table.specs.Pricing.{cost_at}
use Rattle.ps_table.specs.Places.{IsOperationWide, IsWideAt, IsColumnWide, PivotPlace, HomePlaces, PricePlaces, column_of}
use Rattle.ps_simplex.specs.declared.phase.Phase.{Phase}
use Rattle.ps_simplex.specs.declared.phase.Phase.TheVariants.{One, Lower, Upper}
use Rattle.ps_bland.specs.declared.settled.Settled.{Settled}
use Rattle.ps_bland.specs.declared.settled.Settled.TheVariants.{Feasible, AtRest, OutOfPivots}
use Rattle.ps_bland.specs.Rules.{IsDueToEndIn, IsLawful, artificial_at, simplex_of}

-- the ratio of a row in column q is too wide
pub record IsRatioWide (t : Tableau) (q : ℕ) (w : WideAt) : Type 0 where
  pub row : ℕ
  pub rising : IsRising (simplex_of t) q row
  pub is : w ≡ record { place = Ratio row; op = Div; left = entry_at t row 0; right = entry_at t row q }
  pub wide : IsOperationWide Div (entry_at t row 0) (entry_at t row q)

-- the home of row m is priced: a slack where no slack before it improves, an artificial where no slack improves
pub data IsPriced (costs : Costs) (t : Tableau) (m : ℕ) : Type 0 where
  as_slack : artificial_at t.kinds (suc m) ≡ false
      → ((j : ℕ) → j < suc m → Improves (simplex_of t) (cost_at costs) j → ⊥) → IsPriced costs t m
  as_artificial : artificial_at t.kinds (suc m) ≡ true
      → ((j : ℕ) → j < suc (rows_of t) → Improves (simplex_of t) (cost_at costs) j → ⊥) → IsPriced costs t m

-- what is carried of a home that is priced is too wide
pub record IsHomeWide (costs : Costs) (t : Tableau) (w : WideAt) : Type 0 where
  pub row : ℕ
  pub within : row < rows_of t
  pub priced : IsPriced costs t row
  pub wide : IsWideAt (HomePlaces t costs row) w

-- the price of a world is too wide, and no slack and no world before it improves
pub record IsPriceWide (costs : Costs) (t : Tableau) (w : WideAt) : Type 0 where
  pub world : ℕ
  pub inside : HasWorld t world
  pub least : (j : ℕ) → j < rows_of t + world → Improves (simplex_of t) (cost_at costs) j → ⊥
  pub wide : IsWideAt (PricePlaces t costs world) w

-- what is carried of a home or a world is too wide where it is due
pub data IsCarriedWide (costs : Costs) (t : Tableau) (w : WideAt) : Type 0 where
  of_home : IsHomeWide costs t w → IsCarriedWide costs t w
  of_world : IsPriceWide costs t w → IsCarriedWide costs t w

-- the least ratio decides which row leaves: in phase two there is no artificial row
abbrev pub RatiosDecide : Phase → SimplexTable → ℕ → Type 0
RatiosDecide One t q = Unit {0}
RatiosDecide Lower t q = HasNoArtificialRow t q
RatiosDecide Upper t q = HasNoArtificialRow t q

-- the least ratio decides which row of a solver's table leaves
abbrev pub IsLeftToRatios : Phase → Tableau → ℕ → Type 0
IsLeftToRatios phase t q = RatiosDecide phase (simplex_of t) q

-- a pivot is due: there is one by the rule, and one is left
pub record IsPivotDue (phase : Phase) (costs : Costs) (t : Tableau) (left : ℕ) : Type 0 where
  pub enter : Col
  pub leave : ℕ
  pub lawful : IsLawful phase costs t enter leave
  pub some_left : 0 < left

-- the operands at a due place of the table, where they are too wide; a column that enters, ratios and pivots are due only while
-- a pivot is left
pub data IsDueWide (phase : Phase) (costs : Costs) (t : Tableau) (left : ℕ) (w : WideAt) : Type 0 where
  at_cost : (IsDueToEndIn phase t → ⊥) → IsCarriedWide costs t w → IsDueWide phase costs t left w
  at_column : (q : Col) → (IsDueToEndIn phase t → ⊥) → 0 < left → HasColumn t q
      → Enters (simplex_of t) (cost_at costs) (number_of t q) → IsColumnWide t q w → IsDueWide phase costs t left w
  at_ratio : (q : Col) → (IsDueToEndIn phase t → ⊥) → 0 < left → HasColumn t q
      → Enters (simplex_of t) (cost_at costs) (number_of t q)
      → IsLeftToRatios phase t (number_of t q) → IsRatioWide t (number_of t q) w → IsDueWide phase costs t left w
  at_pivot : (q : Col) (p : ℕ) → 0 < left
      → IsLawful phase costs t q p
      → IsWideAt (PivotPlace (rows_of t) (home_at t) (column_of t q) p) w → IsDueWide phase costs t left w

-- the operands at no due place of the table are too wide
abbrev pub AreDueNarrow : Phase → Costs → Tableau → ℕ → Type 0
AreDueNarrow phase costs t left = (w : WideAt) → ¬ IsDueWide phase costs t left w

-- a number of a due place is too wide, or a pivot that is due finds no memory
abbrev pub IsDueRefusal : Phase → Costs → Tableau → ℕ → TableError → Type 0
IsDueRefusal phase costs t left (Wide w) = IsDueWide phase costs t left w
IsDueRefusal phase costs t left NoMemory = IsPivotDue phase costs t left

-- how the pivots of a phase end
abbrev pub IsSettled : Phase → Costs → Tableau → ℕ → Settled → Type 0
IsSettled phase costs t left Feasible = IsDueToEndIn phase t
IsSettled phase costs t left AtRest = IsResting phase (simplex_of t) (cost_at costs)
IsSettled phase costs t left OutOfPivots = IsMoving phase (simplex_of t) (cost_at costs) × (left ≡ 0)

-- an end, or a refusal at a due place of the table as it is left
abbrev pub IsEnd : Phase → Costs → Tableau → ℕ → Result Settled TableError → Type 0
IsEnd phase costs t left (Ok s) = IsSettled phase costs t left s
IsEnd phase costs t left (Err e) = IsDueRefusal phase costs t left e
