-- The entries of a table as the code reads them, and what it has made so far of a pivot and of a new column.
use Rattle.std.specs.Prelude.{◌≡◌, ◌≢◌, ◌⊎◌, ℕ, suc, ◌+◌, ◌-◌, ◌*◌, ◌/◌, ◌%◌, ◌<◌, ◌≤◌, List, length, get_or, ℤ, pos, cond}
use Rattle.std.proofs.Common.{eqb}
use Rattle.ps_frac.specs.declared.wide.Op.{Op}
use Rattle.ps_frac.specs.declared.wide.Op.TheVariants.{Add, Sub, Mul, Div}
use Rattle.ps_meaning.specs.Rational.{Rational, mul, sub, div, zero_q}
use Rattle.ps_meaning.specs.Sums.{sum_to}
use Rattle.ps_meaning.specs.Wide.{Fits, size_limit}
use Rattle.ps_table.specs.declared.place.Place.{Place}
use Rattle.ps_table.specs.declared.place.WideAt.{WideAt}
use Rattle.ps_table.specs.declared.pivot.Pivot.{Pivot}
use Rattle.ps_table.specs.declared.limits.TheConstants.{MOST_ROWS}
use Rattle.ps_table.specs.Tableau.{Tableau, cell_at, rows_of, world_entry, column_part, combined}
use Rattle.ps_table.specs.declared.col.Col.{Col}
use Rattle.ps_table.specs.declared.col.Col.TheVariants as col
use Rattle.ps_simplex.specs.Table.{unit_at}
use Rattle.ps_table.specs.declared.costs.Costs.{Costs}
use Rattle.ps_whole.specs.declared.sums.WholeSum.{WholeSum}
use Rattle.ps_whole.specs.Sums.{value_of, IsSumOf}
use Rattle.ps_table.specs.Pricing.{part_at, carried_to}
use Rattle.ps_table.specs.Places.{Operation, IsOperationWide, IsWideAt, IsNarrow, PivotPlace, ColumnPlace}

-- columns one after the other
pub record GridCells : Type 0 where
  pub rows : ℕ
  pub cells : List Rational

-- how many columns
abbrev pub width : GridCells → ℕ
width g = suc g.rows

-- row i of column j
abbrev pub cell_in : GridCells → ℕ → ℕ → Rational
cell_in g i j = cell_at g.rows g.cells i j

-- the right side, and a home for each row
pub record IsGrid (g : GridCells) : Type 0 where
  pub few : g.rows ≤ MOST_ROWS
  pub size : length g.cells ≡ width g * g.rows

-- each number of column j is below the limit of sizes
abbrev pub ColumnFits : GridCells → ℕ → Type 0
ColumnFits g j = (i : ℕ) → i < g.rows → Fits (cell_in g i j).over × ((cell_in g i j).under < size_limit)

-- the cells of so many rows
abbrev pub cells_of : ℕ → List Rational → GridCells
cells_of n cells = record { rows = n; cells = cells }

-- the grid of a table
abbrev pub grid_of : Tableau → GridCells
grid_of t = cells_of (rows_of t) t.cells

-- the cells of the homes of n rows: units, of which the first is the right side too
abbrev pub AreUnits : ℕ → List Rational → Type 0
AreUnits n cells = (k : ℕ) → k < suc n * n → get_or cells k zero_q ≡ unit_at (k % n) (k / n - 1)

-- the homes of n rows, each in its row
abbrev pub AreHomes : ℕ → List Col → Type 0
AreHomes n basic = (i : ℕ) → i < n → get_or basic i (col.Home 0) ≡ col.Home i

-- a sum with what row i carries of the home of row m
abbrev pub IsNextSum : Tableau → Costs → ℕ → ℕ → WholeSum → WholeSum → Type 0
IsNextSum t costs m i old new = IsSumOf (value_of old) (part_at t costs (suc m) i) new

-- adding what row i carries of the home of row m isn't refused
abbrev pub IsSumNarrowAt : Tableau → Costs → ℕ → ℕ → Type 0
IsSumNarrowAt t costs m i = ¬ IsOperationWide Add (carried_to t costs (suc m) i) (part_at t costs (suc m) i)

-- a refusal of this operation on these operands, at this place
abbrev pub Names : Place → Op → Rational → Rational → WideAt → Type 0
Names at operation first second w = w ≡ record { place = at; op = operation; left = first; right = second }

-- ---- pivots
-- row i of column j after a pivot in row p, by the entries y of the column that enters
abbrev pub pivot_cell : (ℕ → ℕ → Rational) → (ℕ → Rational) → ℕ → ℕ → ℕ → Rational
pivot_cell X y p i j = cond (eqb i p) (div (X p j) (y p)) (sub (X i j) (mul (y i) (div (X p j) (y p))))

-- the entry of row i in the column that enters
abbrev pub enters : Pivot → ℕ → Rational
enters p i = get_or p.entering.items i zero_q

-- a row, the entries of the column that enters, and its entry in that row, which isn't 0
pub record IsPivotOf (g : GridCells) (p : Pivot) : Type 0 where
  pub grid : IsGrid g
  pub row : p.row < g.rows
  pub count : length p.entering.items ≡ g.rows
  pub not_zero : enters p p.row ≢ zero_q

-- a cell that is none of the pivot's row
pub record IsOtherCell (g : GridCells) (p : Pivot) (i j : ℕ) : Type 0 where
  pub row : i < g.rows
  pub other : i ≢ p.row
  pub column : j < width g

-- the entry of the pivot's row in column j after the pivot
abbrev pub scaled_in : GridCells → Pivot → ℕ → Rational
scaled_in g p j = div (cell_in g p.row j) (enters p p.row)

-- what row i of column j loses in the pivot
abbrev pub lost_in : GridCells → Pivot → ℕ → ℕ → Rational
lost_in g p i j = mul (enters p i) (scaled_in g p j)

-- row i of column j after the pivot
abbrev pub pivoted_in : GridCells → Pivot → ℕ → ℕ → Rational
pivoted_in g p i j = pivot_cell (cell_in g) (enters p) p.row i j

-- the operations at the places of a pivot in row p, by the entries y of the column that enters
abbrev pub GridPlaces : GridCells → (ℕ → Rational) → ℕ → Operation → Type 0
GridPlaces g y p = PivotPlace g.rows (cell_in g) y p

-- the operations at the places of the pivot
abbrev pub GridPivotPlaces : GridCells → Pivot → Operation → Type 0
GridPivotPlaces g p = GridPlaces g (enters p) p.row

-- the division in column j isn't refused
abbrev pub IsScaleNarrow : GridCells → Pivot → ℕ → Type 0
IsScaleNarrow g p j = ¬ IsOperationWide Div (cell_in g p.row j) (enters p p.row)

-- neither operation on row i of column j is refused in a pivot in row p of a table X, by the entries y of the column that enters
pub record IsNarrowCell (X : ℕ → ℕ → Rational) (y : ℕ → Rational) (p i j : ℕ) : Type 0 where
  pub times : ¬ IsOperationWide Mul (y i) (div (X p j) (y p))
  pub minus : ¬ IsOperationWide Sub (X i j) (mul (y i) (div (X p j) (y p)))

-- the product in row i of column j isn't refused
abbrev pub IsTimesNarrow : GridCells → Pivot → ℕ → ℕ → Type 0
IsTimesNarrow g p i j = ¬ IsOperationWide Mul (enters p i) (scaled_in g p j)

-- neither operation on row i of column j is refused
abbrev pub IsCellNarrow : GridCells → Pivot → ℕ → ℕ → Type 0
IsCellNarrow g p i j = IsNarrowCell (cell_in g) (enters p) p.row i j

-- the pivot's row has a 0 in column j, or the column that enters has a 0 in row i
abbrev pub LosesNothing : GridCells → Pivot → ℕ → ℕ → Type 0
LosesNothing g p i j = (scaled_in g p j ≡ zero_q) ⊎ (enters p i ≡ zero_q)

-- neither operation on row i of column j is refused, unless row i is the pivot's
abbrev pub IsNarrowBeside : GridCells → Pivot → ℕ → ℕ → Type 0
IsNarrowBeside g p i j = i ≢ p.row → IsCellNarrow g p i j

-- the cells after a pivot in row p, in their order, by the entries y of the column that enters
pub record ArePivotedBy (g : GridCells) (y : ℕ → Rational) (p : ℕ) (made : List Rational) : Type 0 where
  pub count : length made ≡ length g.cells
  pub entries : (k : ℕ) → k < length g.cells → get_or made k zero_q ≡ pivot_cell (cell_in g) y p (k % g.rows) (k / g.rows)

-- the cells after the pivot
abbrev pub ArePivoted : GridCells → Pivot → List Rational → Type 0
ArePivoted g p made = ArePivotedBy g (enters p) p.row made

-- ---- columns of worlds
-- entries of a world, one for each row
pub record IsNewColumn (g : GridCells) (entries : List ℤ) : Type 0 where
  pub grid : IsGrid g
  pub count : length entries ≡ g.rows

-- the operations at the places of row i of the column of world k
abbrev pub GridColumnPlaces : GridCells → List ℤ → ℕ → ℕ → Operation → Type 0
GridColumnPlaces g entries k i = ColumnPlace g.rows (cell_in g) entries k i

-- row m of a world's column, times the home of row m in row i
abbrev pub part_in : GridCells → List ℤ → ℕ → ℕ → Rational
part_in g entries i m = column_part (cell_in g) entries i m

-- the sum of these products before row m, in row i
abbrev pub sum_in : GridCells → List ℤ → ℕ → ℕ → Rational
sum_in g entries i m = sum_to m (column_part (cell_in g) entries i)

-- row i of a world's column
abbrev pub combined_in : GridCells → List ℤ → ℕ → Rational
combined_in g entries i = combined g.rows (cell_in g) entries i

-- neither operation on row m of a world's entries is refused in row i of a table X
pub record IsNarrowPart (X : ℕ → ℕ → Rational) (entries : List ℤ) (i m : ℕ) : Type 0 where
  pub times : ¬ IsOperationWide Mul (X i (suc m)) (world_entry entries m)
  pub plus : ¬ IsOperationWide Add (sum_to m (column_part X entries i)) (column_part X entries i m)

-- the entry of row m is 0, or the cell of its home in row i is
abbrev pub AddsNothing : GridCells → List ℤ → ℕ → ℕ → Type 0
AddsNothing g entries i m = (get_or entries m (pos 0) ≡ pos 0) ⊎ (cell_in g i (suc m) ≡ zero_q)

-- the product in row i isn't refused as row m of a world's entries is added
abbrev pub IsProductNarrow : GridCells → List ℤ → ℕ → ℕ → Type 0
IsProductNarrow g entries i m = ¬ IsOperationWide Mul (cell_in g i (suc m)) (world_entry entries m)

-- no operation of a world's column is refused in row i
abbrev pub IsEntryNarrow : GridCells → List ℤ → ℕ → Type 0
IsEntryNarrow g entries i = (m : ℕ) → m < g.rows → IsNarrowPart (cell_in g) entries i m

-- row i of the column of world k, and no operation for it is refused
pub record IsCombined (g : GridCells) (entries : List ℤ) (k i : ℕ) (x : Rational) : Type 0 where
  pub value : x ≡ combined_in g entries i
  pub narrow : IsNarrow (GridColumnPlaces g entries k i)

-- the column of world k, and no operation for it is refused
pub record IsMadeColumn (g : GridCells) (entries : List ℤ) (k : ℕ) (made : List Rational) : Type 0 where
  pub count : length made ≡ g.rows
  pub cells : (i : ℕ) → i < g.rows → get_or made i zero_q ≡ combined_in g entries i
  pub narrow : (i : ℕ) → i < g.rows → IsNarrow (GridColumnPlaces g entries k i)

-- a refusal of fractions is at one of the places of the column of world k
pub record IsColumnRefused (g : GridCells) (entries : List ℤ) (k : ℕ) (w : WideAt) : Type 0 where
  pub row : ℕ
  pub within : row < g.rows
  pub refused : IsWideAt (GridColumnPlaces g entries k row) w
