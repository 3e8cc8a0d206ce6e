-- Entries of a table, by the cells that are kept and the entries of its worlds.
use Rattle.std.proofs.Common.{◌≡◌, ℕ, suc, ◌+◌, ◌-◌, ◌*◌, ◌<◌, ◌≤◌, List, [], length, get_or, ℤ, pos, arith, refl, sym, ap, ◌∙◌, subst, inl, inr}
use Rattle.std.proofs.Common.{Result, Ok, Err, IfOk, IfErr, Option, Some, None, IfSome}
use Rattle.ps_meaning.specs.Rational.{Rational, zero_q}
use Rattle.ps_meaning.specs.Sums.{sum_to}
use Rattle.ps_simplex.specs.Table.{carried_by}
use Rattle.ps_table.specs.declared.col.Col.{Col}
use Rattle.ps_table.specs.declared.col.Col.TheVariants as col
use Rattle.ps_table.specs.declared.costs.Costs.{Costs}
use Rattle.ps_table.specs.declared.error.TableError.{TableError}
use Rattle.ps_table.specs.declared.error.TableError.TheVariants as refused
use Rattle.ps_table.specs.declared.place.WideAt.{WideAt}
use Rattle.ps_table.specs.Tableau.{Tableau, IsTableau, HasWorld, rows_of, home_at, entry_at, entry_of, entries_of, combined, basic_at}
use Rattle.ps_table.specs.Pricing.{cost_at, carried_of, multiplier_of}
use Rattle.ps_table.specs.Places.{Operation, IsNarrow, IsWideAt, IsRefusedAt, PivotPlace, PivotPlaces, EntryPlaces, column_of, of_column, of_homes, HasNarrowColumn}
use Rattle.ps_table.specs.Prices.{price_to}
use Rattle.ps_table.specs.Grids.{GridCells, cell_in, grid_of, IsGrid, IsNewColumn, IsCombined, combined_in, GridPlaces, GridColumnPlaces, IsColumnRefused}
use Rattle.ps_table.specs.KeptCells.{IsPivotOn, IsHomePivot, IsWorldPivot, IsWorldRefusal}
use Rattle.ps_table.proofs.Extended.{extended_home, extended_world, combined_same, combined_price}
use Rattle.ps_table.proofs.Narrow.{wide_more}

-- the right side and the homes
pub home_is : (t : Tableau) (i j : ℕ) → j ≤ rows_of t → entry_at t i j ≡ home_at t i j
home_is t i j h = extended_home (rows_of t) (home_at t) t.entries i j h

pub home_value : (t : Tableau) (g : GridCells) (i j : ℕ) (x : Rational) → g ≡ grid_of t → j ≤ rows_of t → x ≡ cell_in g i j → x ≡ entry_at t i j
home_value t g i j x e h value = value ∙ ap (λ (s : GridCells). cell_in s i j) e ∙ sym (home_is t i j h)

-- a world
pub world_is : (t : Tableau) (i k : ℕ) → 0 < k → entry_of t i (col.World k) ≡ combined (rows_of t) (home_at t) (entries_of t k) i
world_is t i k h =
    let n = rows_of t in
    let at : (n + k) - suc n ≡ k - 1 = omega arith in
    extended_world n (home_at t) t.entries i (n + k) (omega (arith, h)) ∙ ap (λ m. combined n (home_at t) (get_or t.entries m []) i) at

pub world_column : (t : Tableau) (g : GridCells) (k : ℕ) (entries : List ℤ) → IsTableau t → g ≡ grid_of t → HasWorld t k → entries ≡ entries_of t k → IsNewColumn (grid_of t) entries
world_column t g k entries ok e h is = record {
  grid = record { few = ok.few; size = ok.cells };
  count = ap (λ es. length es) is ∙ ok.columns (k - 1) (omega (arith, h.0, h.1));
}

-- what is made over the grid is made over the table
pub over_table : (P : GridCells → List ℤ → Type 0) (t : Tableau) (g : GridCells) (k : ℕ) (entries : List ℤ) → g ≡ grid_of t → entries ≡ entries_of t k
    → P g entries → P (grid_of t) (entries_of t k)
over_table P t g k entries e is h = subst (λ es. P (grid_of t) es) is (subst (λ (s : GridCells). P s entries) e h)

-- the prices of worlds are what is carried of them
pub price_is : (t : Tableau) (costs : Costs) (k : ℕ) → 0 < k → price_to t costs k (rows_of t) ≡ carried_of t costs (col.World k)
price_is t costs k h =
    let n = rows_of t in
    combined_price n (entry_at t) (entries_of t k) (cost_at costs) (basic_at t) (n + k)
    (λ i hi. world_is t i k h ∙ homes_combine i)
  where
    homes_combine : (i : ℕ) → combined (rows_of t) (home_at t) (entries_of t k) i ≡ combined (rows_of t) (entry_at t) (entries_of t k) i
    homes_combine i = combined_same (rows_of t) (home_at t) (entry_at t) (entries_of t k) i (λ m l. sym (home_is t i (suc m) (omega (arith, l))))

-- the column of a home that enters
pub home_column : (t : Tableau) (m : ℕ) → m < rows_of t → column_of t (col.Home m) ≡ (λ i. cell_in (grid_of t) i (suc m))
home_column t m h = λ z i. home_is t i (suc m) (omega (arith, h)) z

-- the column of a world that enters
pub world_enters : (t : Tableau) (k : ℕ) → 0 < k → column_of t (col.World k) ≡ combined_in (grid_of t) (entries_of t k)
world_enters t k h = λ z i. world_is t i k h z

homes_wide : (t : Tableau) (p : ℕ) (q : Col) (y : ℕ → Rational) (w : WideAt) → column_of t q ≡ y → IsWideAt (GridPlaces (grid_of t) y p) w → IsWideAt (PivotPlaces t p q) w
homes_wide t p q y w e h =
    wide_more (PivotPlace (rows_of t) (home_at t) (column_of t q) p) (PivotPlaces t p q) w (λ o. of_homes)
    (subst (λ z. IsWideAt (GridPlaces (grid_of t) z p) w) (sym e) h)

-- a pivot of a home over the table
pub home_pivot : (t : Tableau) (p m : ℕ) (new : GridCells) → m < rows_of t → IsHomePivot (grid_of t) p (suc m) new → IsPivotOn (grid_of t) (column_of t (col.Home m)) p new
home_pivot t p m new h is = subst (λ y. IsPivotOn (grid_of t) y p new) (sym (home_column t m h)) is

pub home_refused : (t : Tableau) (p m : ℕ) (e : TableError) → m < rows_of t → IsRefusedAt (GridPlaces (grid_of t) (λ i. cell_in (grid_of t) i (suc m)) p) e
    → IsRefusedAt (PivotPlaces t p (col.Home m)) e
home_refused t p m (refused.Wide w) h wide = homes_wide t p (col.Home m) (λ i. cell_in (grid_of t) i (suc m)) w (home_column t m h) wide
home_refused t p m refused.NoMemory h wide = tt

-- a pivot of a world over the table
pub world_pivot : (t : Tableau) (p k : ℕ) (new : GridCells) → 0 < k → IsWorldPivot (grid_of t) p (entries_of t k) k new → IsPivotOn (grid_of t) (column_of t (col.World k)) p new
world_pivot t p k new h is = subst (λ y. IsPivotOn (grid_of t) y p new) (sym (world_enters t k h)) is.pivot

pub world_narrow_column : (t : Tableau) (p k : ℕ) (new : GridCells) → IsWorldPivot (grid_of t) p (entries_of t k) k new → HasNarrowColumn t (col.World k)
world_narrow_column t p k new is = is.column

pub world_refused : (t : Tableau) (p k : ℕ) (e : TableError) → 0 < k → IsWorldRefusal (grid_of t) p (entries_of t k) k e → IsRefusedAt (PivotPlaces t p (col.World k)) e
world_refused t p k (refused.Wide w) h (inl column) =
    wide_more (EntryPlaces t column.row (col.World k)) (PivotPlaces t p (col.World k)) w (λ o. of_column column.row column.within) column.refused
world_refused t p k (refused.Wide w) h (inr wide) = homes_wide t p (col.World k) (combined_in (grid_of t) (entries_of t k)) w (world_enters t k h) wide
world_refused t p k refused.NoMemory h wide = tt

-- no operation for the column of a home is refused: there is none
pub home_narrow : (t : Tableau) (i m : ℕ) → IsNarrow (EntryPlaces t i (col.Home m))
home_narrow t i m = record { nowhere = λ o h. absurd h }

pub home_narrow_column : (t : Tableau) (m : ℕ) → HasNarrowColumn t (col.Home m)
home_narrow_column t m i h = home_narrow t i m
