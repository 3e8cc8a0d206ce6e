-- What a phase asks of the costs and of the table.
use Rattle.std.specs.Prelude.{◌≡◌, ◌⊎◌, ℕ, ◌<◌, ◌≤◌, cond, ℤ, List}
use Rattle.ps_meaning.specs.Rational.{Rational, neg, zero_q, one_q}
use Rattle.ps_meaning.specs.Order.{IsNonneg}
use Rattle.ps_simplex.specs.Table.{Belongs}
use Rattle.ps_simplex.specs.Rule.{IsFeasible}
use Rattle.ps_table.specs.declared.costs.Costs.{Costs}
use Rattle.ps_table.specs.Tableau.{Tableau, rows_of, width_of, entry_at, basic_at, IsAdded}
use Rattle.ps_table.specs.Pricing.{cost_at, HasCosts}
use Rattle.ps_simplex.specs.declared.phase.Phase.{Phase}
use Rattle.ps_simplex.specs.declared.phase.Phase.TheVariants.{One, Lower, Upper}
use Rattle.ps_bland.specs.Rules.{artificial_at, simplex_of}

-- the table belongs to these columns: its rows combine the basic ones to each
abbrev pub BelongsTo : (ℕ → ℕ → Rational) → Tableau → Type 0
BelongsTo columns t = Belongs (rows_of t) (width_of t) columns (basic_at t) (entry_at t)

-- no column has a cost below 0
pub record HasNoNegativeCost (costs : Costs) (t : Tableau) : Type 0 where
  pub cost : (j : ℕ) → 0 < j → j < width_of t → IsNonneg (cost_at costs j)

-- the table belongs to columns whose row 0 is never below 0, and 1 where the cost is -1
pub record HasUnitRow (costs : Costs) (t : Tableau) : Type 0 where
  pub columns : ℕ → ℕ → Rational
  pub belongs : BelongsTo columns t
  pub row : (j : ℕ) → 0 < j → j < width_of t → IsNonneg (columns 0 j)
  pub cost : (j : ℕ) → 0 < j → j < width_of t
      → (cost_at costs j ≡ zero_q) ⊎ ((cost_at costs j ≡ neg one_q) × (columns 0 j ≡ one_q))

-- what a phase asks of the costs and the table
abbrev pub FitsPhase : Phase → Costs → Tableau → Type 0
FitsPhase One costs t = HasNoNegativeCost costs t
FitsPhase Lower costs t = IsFeasible (simplex_of t) × HasNoNegativeCost costs t
FitsPhase Upper costs t = IsFeasible (simplex_of t) × HasUnitRow costs t

-- no value is below 0
abbrev pub HasNoNegativeValue : Tableau → Type 0
HasNoNegativeValue t = (i : ℕ) → i < rows_of t → IsNonneg (entry_at t i 0)

-- the condition of a phase
pub record IsReady (phase : Phase) (costs : Costs) (t : Tableau) : Type 0 where
  pub costs_there : HasCosts costs t
  pub values : HasNoNegativeValue t
  pub fits : FitsPhase phase costs t

-- an artificial costs 1, all else 0
pub record HasFirstCosts (costs : Costs) (t : Tableau) : Type 0 where
  pub cost : (j : ℕ) → 0 < j → j < width_of t → cost_at costs j ≡ cond (artificial_at t.kinds j) one_q zero_q

-- homes cost 0, and each world 0 or this
pub record HasWorldCosts (some : Rational) (costs : Costs) (t : Tableau) : Type 0 where
  pub homes : (j : ℕ) → 0 < j → j ≤ rows_of t → cost_at costs j ≡ zero_q
  pub worlds : (j : ℕ) → rows_of t < j → j < width_of t → (cost_at costs j ≡ zero_q) ⊎ (cost_at costs j ≡ some)

-- the table belongs to columns whose row 0 is 0 or 1 on each world, 1 on each world of cost -1, and never below 0 on a home
pub record HasWorldRow (costs : Costs) (t : Tableau) : Type 0 where
  pub columns : ℕ → ℕ → Rational
  pub belongs : BelongsTo columns t
  pub homes : (j : ℕ) → 0 < j → j ≤ rows_of t → IsNonneg (columns 0 j)
  pub worlds : (j : ℕ) → rows_of t < j → j < width_of t → (columns 0 j ≡ zero_q) ⊎ (columns 0 j ≡ one_q)
  pub costly : (j : ℕ) → rows_of t < j → j < width_of t → cost_at costs j ≡ neg one_q → columns 0 j ≡ one_q

-- the costs that a phase is for: the artificials' values, the query's value, and the latter turned round
abbrev pub IsPosed : Phase → Costs → Tableau → Type 0
IsPosed One costs t = HasFirstCosts costs t
IsPosed Lower costs t = IsFeasible (simplex_of t) × HasWorldCosts one_q costs t
IsPosed Upper costs t = IsFeasible (simplex_of t) × HasWorldCosts (neg one_q) costs t × HasWorldRow costs t

-- ---- the laws
-- a table without values below 0 is ready for a phase with the costs that the phase is for
abbrev pub PosedTablesAreReady : Type 0
PosedTablesAreReady = (phase : Phase) (costs : Costs) (t : Tableau) → HasCosts costs t → HasNoNegativeValue t
    → IsPosed phase costs t → IsReady phase costs t

-- a world that is added makes no value fall below 0
abbrev pub ValuesStay : Type 0
ValuesStay = (entries : List ℤ) (old new : Tableau) → IsAdded entries old new → HasNoNegativeValue old → HasNoNegativeValue new

-- a world that is added leaves each basic artificial's value at 0 where all of them are 0
abbrev pub FeasibilityStays : Type 0
FeasibilityStays = (entries : List ℤ) (old new : Tableau) → IsAdded entries old new → IsFeasible (simplex_of old)
    → IsFeasible (simplex_of new)
