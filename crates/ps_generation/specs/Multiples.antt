-- Whole multiples of a table's multipliers and values.
use Rattle.std.specs.Prelude.{◌≡◌, ℕ, ◌<◌, ◌≤◌, ℤ, pos, unsigned_abs, length, get_or}
use Rattle.ps_meaning.specs.Scaled.{scaled}
use Rattle.ps_table.specs.declared.costs.Costs.{Costs}
use Rattle.ps_table.specs.Tableau.{Tableau, rows_of, basic_at, entry_at}
use Rattle.ps_table.specs.Pricing.{cost_at, multiplier_of}
use Rattle.ps_meaning.specs.declared.limits.TheConstants.{PRINTED_LIMIT}
use Rattle.ps_table.specs.Places.{Operation, HomePlaces, MultiplierPlace, WeightPlace, multiple_to, weight_multiple_to, weight_at}
use Rattle.ps_generation.specs.declared.scaled.Scaled.{Scaled}
use Rattle.ps_generation.specs.declared.weights.Weights.{Weights}
use Rattle.ps_meaning.specs.Sums.{int_sum_to}

-- ---- multipliers
-- the least common multiple of the denominators of a table's multipliers
abbrev pub multiple_of : Tableau → Costs → ℕ
multiple_of t costs = multiple_to (rows_of t) (cost_at costs) (basic_at t) (entry_at t) (rows_of t)

-- a multiplier times it
abbrev pub whole_multiplier : Tableau → Costs → ℕ → ℤ
whole_multiplier t costs m = scaled (multiple_of t costs) (multiplier_of t costs m)

-- the multiple, and the whole number of each multiplier, small enough to be printed
pub record AreScaled (t : Tableau) (costs : Costs) (s : Scaled) : Type 0 where
  pub multiple : s.multiple ≡ multiple_of t costs
  pub count : length s.numbers ≡ rows_of t
  pub numbers : (m : ℕ) → m < rows_of t → get_or s.numbers m (pos 0) ≡ whole_multiplier t costs m
  pub small : multiple_of t costs ≤ PRINTED_LIMIT
  pub all_small : (m : ℕ) → m < rows_of t → unsigned_abs (get_or s.numbers m (pos 0)) ≤ PRINTED_LIMIT

-- the operations at the places of a dual's multiples: of what is carried of each home, and of the multiples of these
pub data DualPlaces (t : Tableau) (costs : Costs) : Operation → Type 0 where
  of_home : (m : ℕ) (o : Operation) → m < rows_of t → HomePlaces t costs m o → DualPlaces t costs o
  of_multiplier : (o : Operation) → MultiplierPlace (rows_of t) (cost_at costs) (basic_at t) (entry_at t) o
      → DualPlaces t costs o

-- ---- weights
-- the least common multiple of the denominators of the values of the rows whose basic column is a world
abbrev pub weight_multiple_of : Tableau → ℕ
weight_multiple_of t = weight_multiple_to (rows_of t) (basic_at t) (entry_at t) (rows_of t)

-- the weight of a row: its value times the multiple where its basic column is a world, else 0
abbrev pub weight_of : Tableau → ℕ → ℤ
weight_of t i = weight_at (rows_of t) (basic_at t) (entry_at t) i

-- the operations at the places of the weights of a table
abbrev pub ModelPlaces : Tableau → Operation → Type 0
ModelPlaces t = WeightPlace (rows_of t) (basic_at t) (entry_at t)

-- the sum of the weights
abbrev pub total_of : Tableau → ℤ
total_of t = int_sum_to (rows_of t) (weight_of t)

-- the weight of each row and their sum, small enough to be printed
pub record AreWeights (t : Tableau) (w : Weights) : Type 0 where
  pub total : w.total ≡ total_of t
  pub count : length w.rows ≡ rows_of t
  pub rows : (i : ℕ) → i < rows_of t → get_or w.rows i (pos 0) ≡ weight_of t i
  pub small : unsigned_abs w.total ≤ PRINTED_LIMIT
  pub all_small : (i : ℕ) → i < rows_of t → unsigned_abs (get_or w.rows i (pos 0)) ≤ PRINTED_LIMIT
