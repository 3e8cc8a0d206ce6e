-- A table as its callers see it: the kinds of the homes, their columns one after the other, the worlds' entries, and the
-- basic columns. A world's column isn't kept: the homes combine its entries.
use Rattle.std.specs.Prelude.{◌≡◌, ℕ, suc, ◌+◌, ◌-◌, ◌*◌, ◌<◌, ◌≤◌, ℤ, pos, if◌then◌else◌}
use Rattle.std.specs.Prelude.{List, [], ◌∷◌, ◌++◌, get_or, length, set}
use Rattle.std.proofs.Common.{ltb}
use Rattle.ps_table.specs.declared.home.Home.{Home}
use Rattle.ps_table.specs.declared.limits.TheConstants.{MOST_ROWS}
use Rattle.ps_table.specs.declared.pool.TheConstants.{MOST_WORLDS}
use Rattle.ps_table.specs.declared.col.Col.{Col}
use Rattle.ps_table.specs.declared.col.Col.TheVariants as col
use Rattle.ps_table.specs.declared.place.TableCol.{TableCol}
use Rattle.ps_table.specs.declared.place.TableCol.TheVariants.{Right, Of}
use Rattle.ps_meaning.specs.Rational.{Rational, fraction, mul, zero_q}
use Rattle.ps_meaning.specs.Sums.{sum_to}
use Rattle.ps_simplex.specs.Table.{IsBasisTable, Pivoted, Based, HasHomes, unit_at}

-- a table as it is seen: the kind of each home, the number of worlds, the entries of each, the cells of the right side and of
-- the homes, column by column, and the basic columns
pub record Tableau : Type 0 where
  pub kinds : List Home
  pub worlds : ℕ
  pub entries : List (List ℤ)
  pub cells : List Rational
  pub basic : List Col

-- ---- rows and columns
-- the number of a column among those of n rows: the right side is 0, then come the homes and the worlds
abbrev pub number_in : ℕ → Col → ℕ
number_in n (col.Home i) = suc i
number_in n (col.World k) = n + k

-- the number of a column as a refusal names it: the right side is 0
abbrev pub number_shown : ℕ → TableCol → ℕ
number_shown n Right = 0
number_shown n (Of c) = number_in n c

-- there is such a column
abbrev pub IsInside : ℕ → ℕ → Col → Type 0
IsInside n worlds (col.Home i) = i < n
IsInside n worlds (col.World k) = (0 < k) × (k ≤ worlds)

-- the column is a home of n rows
abbrev pub IsHome : ℕ → Col → Type 0
IsHome n (col.Home i) = i < n
IsHome n (col.World k) = ⊥

-- a refusal of a pivot may name the column: the right side or a home
abbrev pub IsShown : ℕ → TableCol → Type 0
IsShown n Right = Unit {0}
IsShown n (Of c) = IsHome n c

-- how many rows a table has
abbrev pub rows_of : Tableau → ℕ
rows_of t = length t.kinds

-- how many columns, with the right side
abbrev pub width_of : Tableau → ℕ
width_of t = suc (rows_of t + t.worlds)

-- the number of a table's column
abbrev pub number_of : Tableau → Col → ℕ
number_of t c = number_in (rows_of t) c

-- a table has the column
abbrev pub HasColumn : Tableau → Col → Type 0
HasColumn t c = IsInside (rows_of t) t.worlds c

-- a table has the world
abbrev pub HasWorld : Tableau → ℕ → Type 0
HasWorld t k = (0 < k) × (k ≤ t.worlds)

-- row i of column j, in columns of n rows
abbrev pub cell_at : ℕ → List Rational → ℕ → ℕ → Rational
cell_at n cells i j = get_or cells (j * n + i) zero_q

-- entry m of a world, as a rational number
abbrev pub world_entry : List ℤ → ℕ → Rational
world_entry entries m = fraction (get_or entries m (pos 0)) 1

-- entry m of a world, times the home of row m in row i
abbrev pub column_part : (ℕ → ℕ → Rational) → List ℤ → ℕ → ℕ → Rational
column_part X entries i m = mul (X i (suc m)) (world_entry entries m)

-- row i of a world's column: what the n homes times its entries come to
abbrev pub combined : ℕ → (ℕ → ℕ → Rational) → List ℤ → ℕ → Rational
combined n X entries i = sum_to n (column_part X entries i)

-- row i of column j: that of the right side or a home, which are X, or of a world's column, which is combined
unfoldable pub extended : ℕ → (ℕ → ℕ → Rational) → List (List ℤ) → ℕ → ℕ → Rational
extended n X worlds i j = if ltb n j then combined n X (get_or worlds (j - suc n) []) i else X i j

-- the cell of a row in the right side or a home
abbrev pub home_at : Tableau → ℕ → ℕ → Rational
home_at t i j = cell_at (rows_of t) t.cells i j

-- the entries of a world, by its number from 1
abbrev pub entries_of : Tableau → ℕ → List ℤ
entries_of t k = get_or t.entries (k - 1) []

-- the entry of a row in the column of this number
abbrev pub entry_at : Tableau → ℕ → ℕ → Rational
entry_at t i j = extended (rows_of t) (home_at t) t.entries i j

-- the entry of a row in a column
abbrev pub entry_of : Tableau → ℕ → Col → Rational
entry_of t i c = entry_at t i (number_of t c)

-- the number of the column that is basic in a row
abbrev pub basic_at : Tableau → ℕ → ℕ
basic_at t i = number_in (rows_of t) (get_or t.basic i (col.Home 0))

-- a table as it is kept: some rows, at most as many as may be; a cell of the right side and of each home in each row; an entry of
-- each world in each row; in each row one of its columns is basic
pub record IsTableau (t : Tableau) : Type 0 where
  pub some : 0 < rows_of t
  pub few : rows_of t ≤ MOST_ROWS
  pub many : t.worlds ≤ MOST_WORLDS
  pub cells : length t.cells ≡ suc (rows_of t) * rows_of t
  pub worlds : length t.entries ≡ t.worlds
  pub columns : (k : ℕ) → k < t.worlds → length (get_or t.entries k []) ≡ rows_of t
  pub basics : length t.basic ≡ rows_of t
  pub inside : (i : ℕ) → i < rows_of t → IsInside (rows_of t) t.worlds (get_or t.basic i (col.Home 0))

-- ---- the systems of rows and columns that a table is of
-- the table is that of its basis, for rows and columns A
abbrev pub IsTableFor : (ℕ → ℕ → Rational) → Tableau → Type 0
IsTableFor A t = IsBasisTable (rows_of t) (width_of t) A (basic_at t) (entry_at t)

-- whatever system of rows and columns a table was of, it is of after the change
abbrev pub KeepsSystem : Tableau → Tableau → Type 0
KeepsSystem old new = (A : ℕ → ℕ → Rational) → IsTableFor A old → IsTableFor A new

-- ---- the first table
-- in each row its home is basic
abbrev pub HasBasicHomes : List Home → Tableau → Type 0
HasBasicHomes kinds t = (i : ℕ) → i < length kinds → get_or t.basic i (col.Home 0) ≡ col.Home i

-- the homes' columns are units, and the right side is the first of them
abbrev pub HasUnitHomes : List Home → Tableau → Type 0
HasUnitHomes kinds t = (i j : ℕ) → i < length kinds → j ≤ length kinds → entry_at t i j ≡ unit_at i (j - 1)

-- a table is one for all columns that begin with these homes
abbrev pub IsTableForHomes : List Home → Tableau → Type 0
IsTableForHomes kinds t = (A : ℕ → ℕ → Rational) → HasHomes (length kinds) A → IsTableFor A t

-- ---- changes
-- column q became basic in row p
pub record IsPivot (p : ℕ) (q : Col) (old new : Tableau) : Type 0 where
  pub kinds : new.kinds ≡ old.kinds
  pub worlds : new.worlds ≡ old.worlds
  pub entries : new.entries ≡ old.entries
  pub basic : new.basic ≡ set old.basic p q
  pub based : Based (rows_of old) p (number_of old q) (basic_at old) (basic_at new)
  pub cells : Pivoted (rows_of old) (width_of old) p (number_of old q) (entry_at old) (entry_at new)

-- column j of A is that of the entries
abbrev pub IsColumn : List ℤ → ℕ → ℕ → (ℕ → ℕ → Rational) → Type 0
IsColumn entries n j A = (m : ℕ) → m < n → A m j ≡ world_entry entries m

-- the column of a world with these entries was added
pub record IsAdded (entries : List ℤ) (old new : Tableau) : Type 0 where
  pub kinds : new.kinds ≡ old.kinds
  pub worlds : new.worlds ≡ suc old.worlds
  pub added : new.entries ≡ old.entries ++ entries ∷ []
  pub basic : new.basic ≡ old.basic
  pub before : (i j : ℕ) → i < rows_of old → j < width_of old → entry_at new i j ≡ entry_at old i j
  pub here : (i : ℕ) → i < rows_of old → entry_at new i (width_of old)
      ≡ sum_to (rows_of old) (λ m. mul (entry_at old i (suc m)) (world_entry entries m))

-- whatever system a table was of whose next column is that of the entries, it is of with that column
abbrev pub ExtendsSystem : List ℤ → Tableau → Tableau → Type 0
ExtendsSystem entries old new = (A : ℕ → ℕ → Rational) → IsColumn entries (rows_of old) (width_of old) A
    → IsTableFor A old → IsTableFor A new
