-- The rows and columns of a run: what its bounds' rows and its query make of each world.
use Rattle.std.specs.Prelude.{ℕ, suc, ◌-◌, ℤ, pos, neg_ℤ, Bool, true, false, cond}
use Rattle.std.specs.Prelude.{List, [], ◌∷◌, ◌++◌, map, length, get_or, ◌+◌, ◌<◌}
use Rattle.std.proofs.Common.{leb}
use Rattle.ps_meaning.specs.Formula.{World, Formula, And}
use Rattle.ps_meaning.specs.declared.side.Side.{Side}
use Rattle.ps_meaning.specs.declared.side.Side.TheVariants.{AtLeast, AtMost, Exactly}
use Rattle.ps_meaning.specs.Rows.{Row, indicator, row_in}
use Rattle.ps_meaning.specs.Rational.{Rational, fraction}
use Rattle.ps_meaning.specs.Order.{IsNonneg}
use Rattle.ps_simplex.specs.Table.{unit_at, IsBasisTable}
use Rattle.ps_simplex.specs.declared.phase.Phase.{Phase}
use Rattle.ps_simplex.specs.declared.phase.Phase.TheVariants as phase
use Rattle.ps_simplex.specs.Rule.{SimplexTable}
use Rattle.ps_simplex.specs.Pivots.{System, simplex_table}
use Rattle.ps_table.specs.declared.home.Home.{Home}
use Rattle.ps_table.specs.declared.home.Home.TheVariants.{Slack, Artificial}
use Rattle.ps_problem.specs.Rows.{signed_by}
use Rattle.ps_claims.specs.Queries.{Query}
use Rattle.ps_claims.specs.declared.claim_kind.ClaimKind.{ClaimKind}
use Rattle.ps_claims.specs.declared.claim_kind.ClaimKind.TheVariants.{Nothing, Lower, Upper}

-- what a table is made of: the rows that a distribution is to meet, and the query, whose evidence is to weigh something
pub record Setting : Type 0 where
  pub rows : List Row
  pub query : Query

-- formula and evidence of the query together
abbrev pub both_of : Setting → Formula ℕ
both_of s = And s.query.formula s.query.evidence

-- the phase that is to show a claim of this kind
abbrev pub phase_of : ClaimKind → Phase
phase_of Nothing = phase.One
phase_of Lower = phase.Lower
phase_of Upper = phase.Upper

-- ---- columns
-- a row's entry in a world's column
abbrev pub entry_in : World → Row → ℤ
entry_in w r = signed_by r.side (row_in r w)

-- a world's column: whether the evidence is true in it, and its entry of each row
abbrev pub entries_of : Setting → World → List ℤ
entries_of s w = indicator s.query.evidence w ∷ map (entry_in w) s.rows

-- whether a side states an equation, whose row needs no slack
abbrev pub is_exact : Side → Bool
is_exact AtLeast = false
is_exact AtMost = false
is_exact Exactly = true

-- whether the home of each row is artificial: it is in row 0, which says that the evidence weighs 1, and in an equation's
abbrev pub artificial_rows : Setting → List Bool
artificial_rows s = true ∷ map (λ r. is_exact r.side) s.rows

-- the kind of a home: artificial, else a slack
abbrev pub home_of : Bool → Home
home_of true = Artificial
home_of false = Slack

-- the kinds of the homes
abbrev pub homes_of : Setting → List Home
homes_of s = map home_of (artificial_rows s)

-- how many rows a table has: one for the evidence, and one for each bound
abbrev pub rows_of : Setting → ℕ
rows_of s = suc (length s.rows)

-- the number in row m and column j: the columns are the right side, the homes, and the worlds of the pool
abbrev pub columns_of : Setting → List World → ℕ → ℕ → Rational
columns_of s pool m j =
    cond (leb j (rows_of s)) (unit_at m (j - 1))
    (fraction (get_or (entries_of s (get_or pool (j - suc (rows_of s)) [])) m (pos 0)) 1)

-- whether the column of a number is artificial
abbrev pub artificial_of : Setting → ℕ → Bool
artificial_of s j = get_or (artificial_rows s) (j - 1) false

-- the rows and columns over the worlds of a pool, and which columns are artificial
abbrev pub system_of : Setting → List World → System
system_of s pool = record { rows = rows_of s; artificial = artificial_of s; columns = columns_of s pool }

-- how many columns a table of the pool's worlds has
abbrev pub width_of : Setting → List World → ℕ
width_of s pool = suc (rows_of s + length pool)

-- ---- costs
-- the cost of a home: phase one makes the artificials as small as it can
abbrev pub home_cost : ClaimKind → Bool → ℤ
home_cost Nothing artificial = cond artificial (pos 1) (pos 0)
home_cost Lower artificial = pos 0
home_cost Upper artificial = pos 0

-- the cost of a world: the sides make the query as small or as great as they can
abbrev pub world_cost : ClaimKind → Setting → World → ℤ
world_cost Nothing s w = pos 0
world_cost Lower s w = indicator (both_of s) w
world_cost Upper s w = neg_ℤ (indicator (both_of s) w)

-- the costs of all columns but the right side: of each home and each world
abbrev pub costs_of : ClaimKind → Setting → List World → List ℤ
costs_of kind s pool = map (home_cost kind) (artificial_rows s) ++ map (world_cost kind s) pool

-- the cost of the column of a number
abbrev pub cost_of : ClaimKind → Setting → List World → ℕ → Rational
cost_of kind s pool j = fraction (get_or (costs_of kind s pool) (j - 1) (pos 0)) 1

-- ---- tables
-- a table of a pool's worlds, as the rule sees it
abbrev pub table_of : Setting → List World → (ℕ → ℕ) → (ℕ → ℕ → Rational) → SimplexTable
table_of s pool basic X = simplex_table (system_of s pool) (width_of s pool) basic X

-- the table is that of its basis, which names homes and worlds of the pool, and no value is below 0
pub record IsTable (s : Setting) (pool : List World) (basic : ℕ → ℕ) (X : ℕ → ℕ → Rational) : Type 0 where
  pub stands : IsBasisTable (rows_of s) (width_of s pool) (columns_of s pool) basic X
  pub first : (i : ℕ) → i < rows_of s → 0 < basic i
  pub last : (i : ℕ) → i < rows_of s → basic i < width_of s pool
  pub values : (i : ℕ) → i < rows_of s → IsNonneg (X i 0)
