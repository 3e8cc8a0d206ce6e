-- The distributions of the solver's tables.
use Rattle.std.specs.Prelude.{◌≡◌, ℕ, ◌+◌, ◌<◌, ℤ, if◌then◌else◌, List, [], ◌∷◌, map, get_or, Option, Some, None}
use Rattle.std.specs.Int.{is_positive}
use Rattle.ps_meaning.specs.Formula.{World}
use Rattle.ps_meaning.specs.Rational.{Rational}
use Rattle.ps_meaning.specs.Scaled.{scaled}
use Rattle.ps_table.specs.declared.col.Col.TheVariants as col
use Rattle.ps_table.specs.Tableau.{Tableau, rows_of, basic_at}
use Rattle.ps_bland.specs.Rules.{simplex_of}
use Rattle.ps_answer.specs.declared.answer.Weighted.{Weighted}
use Rattle.ps_answer.specs.declared.answer.Model.{Model}
use Rattle.ps_generation.specs.Multiples.{weight_multiple_of, total_of}
use Rattle.ps_runs.specs.Certificates.{value_of, weighted_worlds}
use Rattle.ps_claims.specs.Certificates.{entry_of}

-- no column is basic in two rows
pub record AreApart (t : Tableau) : Type 0 where
  pub same : (i k : ℕ) → i < rows_of t → k < rows_of t → basic_at t i ≡ basic_at t k → i ≡ k

-- the world of this number is basic in a row
abbrev pub IsBasicIn : Tableau → ℕ → ℕ → Type 0
IsBasicIn t number i = get_or t.basic i (col.Home 0) ≡ col.World number

-- the row in which it is basic, or none
abbrev pub IsRowOf : Tableau → ℕ → Option ℕ → Type 0
IsRowOf t number (Some i) = (i < rows_of t) × IsBasicIn t number i
IsRowOf t number None = (i : ℕ) → i < rows_of t → ¬ IsBasicIn t number i

-- the value of the column of this world
abbrev pub column_value : Tableau → ℕ → Rational
column_value t number = value_of (simplex_of t) (rows_of t + number)

-- the weight of this world: the value times the least common multiple of the denominators
abbrev pub column_weight : Tableau → ℕ → ℤ
column_weight t number = scaled (weight_multiple_of t) (column_value t number)

-- a world with this weight, where that is above 0, else none
abbrev pub weighed : ℤ → World → List Weighted
weighed z w = if is_positive z then record { weight = z; world = w } ∷ [] else []

-- the worlds of the table's pool that are basic with a value above 0, with their weights and these weights' sum
pub record IsTableModel (t : Tableau) (pool : List World) (m : Model) : Type 0 where
  pub total : m.total ≡ total_of t
  pub worlds : map entry_of m.worlds ≡ weighted_worlds (simplex_of t) pool
