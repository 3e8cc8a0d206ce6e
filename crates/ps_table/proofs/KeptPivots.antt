-- Pivots of rows of whole numbers are those of the grid.
use Rattle.std.proofs.Common.{◌≡◌, ◌≢◌, ℕ, ◌*◌, ◌/◌, ◌%◌, ◌<◌, ◌^◌, List, length, get_or, ℤ, pos, unsigned_abs, refl, sym, ap, ◌∙◌, subst, inl, inr}
use Rattle.std.proofs.Common.{Result, Ok, Err, IfOk, IfErr, Option, Some, None, IfSome}
use Rattle.std.proofs.lemmas.Bool.{cases_eq}
use Rattle.ps_meaning.specs.Rational.{Rational, mul, sub, neg, div, inverse, zero_q}
use Rattle.ps_meaning.specs.Wide.{ProductIsWide, SumIsWide}
use Rattle.ps_frac.specs.declared.wide.Op.TheVariants.{Div}
use Rattle.ps_whole.specs.Whole.{WholeCells, whole_at}
use Rattle.ps_whole.specs.Pivots.{over_row, IsPivotCell, IsPivoted, IsNarrowPivot, ArePivotsNarrow}
use Rattle.ps_whole.specs.Pivots as whole
use Rattle.ps_whole.specs.Columns.{IsKeptColumn}
use Rattle.ps_table.specs.declared.error.TableError.{TableError}
use Rattle.ps_table.specs.declared.error.TableError.TheVariants as refused
use Rattle.ps_table.specs.declared.place.WideAt.{WideAt}
use Rattle.ps_table.specs.Places.{IsNarrow, IsOperationWide, IsWideAt, IsRefusedAt}
use Rattle.ps_table.specs.Grids.{GridCells, width, cell_in, pivot_cell, IsNarrowCell, ArePivotedBy, GridPlaces, combined_in}
use Rattle.ps_table.specs.KeptCells.{entry_in, whole_list, IsPivotOn, IsWholePivot, IsWorldRefusal}
use Rattle.ps_table.proofs.Columns.{pivot_own, pivot_other}
use Rattle.ps_table.proofs.Narrow.{pivot_narrow, place_same, wide_more}
use Rattle.ps_table.proofs.KeptCells.{list_length, list_entry, place_row, place_column, IsGridOf, cell_is}

-- two tables that are the same where a pivot reads them
module _ (X Y : ℕ → ℕ → Rational) (y z : ℕ → Rational) (p i j : ℕ) (by : y p ≡ z p) (own : X p j ≡ Y p j) (factor : y i ≡ z i) (here : X i j ≡ Y i j) where
  quotient_same : div (X p j) (y p) ≡ div (Y p j) (z p)
  quotient_same = λ k. div (own k) (by k)

  lost_same : mul (y i) (div (X p j) (y p)) ≡ mul (z i) (div (Y p j) (z p))
  lost_same = λ k. mul (factor k) (quotient_same k)

  -- the new cell of the one is that of the other
  pub bridge_cell : (x : Rational) → IsPivotCell Y z p i j x → x ≡ pivot_cell X y p i j
  bridge_cell x h = elim (cases_eq i p) [
    | inl same ↦ h.own same ∙ sym quotient_same ∙ sym (pivot_own X y p j) ∙ ap (λ k. pivot_cell X y p k j) (sym same)
    | inr ne ↦ h.other ne ∙ (λ k. sub (sym here k) (sym lost_same k)) ∙ sym (pivot_other X y p i j ne)
  ]

  pub bridge_scale : IsNarrowPivot Y z p i j → ¬ IsOperationWide Div (X p j) (y p)
  bridge_scale h = λ w. h.scale (subst (λ a. ProductIsWide a (inverse (z p))) own (subst (λ b. ProductIsWide (X p j) (inverse b)) by w))

  pub bridge_narrow : IsNarrowPivot Y z p i j → IsNarrowCell X y p i j
  bridge_narrow h = record {
    times = λ w. h.times (subst (λ a. ProductIsWide a (div (Y p j) (z p))) factor (subst (λ b. ProductIsWide (y i) b) quotient_same w));
    minus = λ w. h.minus (subst (λ a. SumIsWide a (neg (mul (z i) (div (Y p j) (z p))))) here (subst (λ b. SumIsWide (X i j) (neg b)) lost_same w));
  }

  pub same_cell : pivot_cell X y p i j ≡ pivot_cell Y z p i j
  same_cell = elim (cases_eq i p) [
    | inl same ↦ ap (λ k. pivot_cell X y p k j) same ∙ pivot_own X y p j ∙ quotient_same ∙ sym (pivot_own Y z p j) ∙ ap (λ k. pivot_cell Y z p k j) (sym same)
    | inr ne ↦ pivot_other X y p i j ne ∙ (λ k. sub (here k) (lost_same k)) ∙ sym (pivot_other Y z p i j ne)
  ]

-- a pivot of rows of whole numbers is one of the grid's cells
module _ (w new : WholeCells) (g : GridCells) (y : ℕ → Rational) (p : ℕ) (column : List ℤ) (h : IsGridOf w g) (row : p < g.rows)
    (size : length g.cells ≡ width g * g.rows) (enters : (i : ℕ) → i < g.rows → y i ≡ over_row w column i) (narrow : ArePivotsNarrow w p column) where
  at : (i j : ℕ) → i < g.rows → j < width g → cell_in g i j ≡ whole_at w i j
  at = cell_is w g h

  pub whole_narrow : IsNarrow (GridPlaces g y p)
  whole_narrow = pivot_narrow g.rows p (length g.cells) (cell_in g) y size
      (λ j hj. bridge_scale (cell_in g) (whole_at w) y (over_row w column) p p j (enters p row) (at p j row hj) (enters p row) (at p j row hj) (narrow p j))
      (λ k hk ne.
      let within : k < width g * g.rows = subst (λ n. k < n) size hk in
      let hi = place_row k (width g) g.rows within in
      let hj = place_column k (width g) g.rows within in
      bridge_narrow (cell_in g) (whole_at w) y (over_row w column) p (k % g.rows) (k / g.rows) (enters p row) (at p (k / g.rows) row hj) (enters (k % g.rows) hi) (at (k % g.rows) (k / g.rows) hi hj) (narrow (k % g.rows) (k / g.rows)))

  pub whole_pivoted : IsPivoted w p column new → ArePivotedBy g y p (whole_list new)
  whole_pivoted is =
      let rows : new.rows ≡ g.rows = is.rows ∙ h.rows in
      let wide : new.width ≡ width g = is.width ∙ h.columns in
      let count : length (whole_list new) ≡ length g.cells = list_length (new.width * new.rows) (entry_in new) ∙ (λ z. wide z * rows z) ∙ sym size in
      record {
        count = count;
        entries = λ k hk.
            let within : k < width g * g.rows = subst (λ n. k < n) size hk in
            let hi = place_row k (width g) g.rows within in
            let hj = place_column k (width g) g.rows within in
            let hn : k < new.width * new.rows = subst (λ n. k < n) (sym (λ z. wide z * rows z)) within in
            list_entry (new.width * new.rows) (entry_in new) k hn
            ∙ (λ z. whole_at new (k % rows z) (k / rows z))
            ∙ bridge_cell (cell_in g) (whole_at w) y (over_row w column) p (k % g.rows) (k / g.rows) (enters p row) (at p (k / g.rows) row hj) (enters (k % g.rows) hi) (at (k % g.rows) (k / g.rows) hi hj)
            (whole_at new (k % g.rows) (k / g.rows))
            (is.cells (k % g.rows) (k / g.rows) (subst (λ n. k % g.rows < n) (sym h.rows) hi) (subst (λ n. k / g.rows < n) (sym h.columns) hj));
      }

  pub whole_pivot : IsPivoted w p column new → IsWholePivot g y p new
  whole_pivot is = record {
    rows = is.rows ∙ h.rows;
    columns = is.width ∙ h.columns;
    pivot = record { rows = refl; pivoted = whole_pivoted is; narrow = whole_narrow };
  }

-- rows of whole numbers and the numbers of the column that enters, as a pivot wants them
pub pivot_of : (w : WholeCells) (g : GridCells) (y : ℕ → Rational) (p : ℕ) (column : List ℤ) → IsGridOf w g → p < g.rows → length column ≡ w.rows
    → ((i : ℕ) → unsigned_abs (get_or column i (pos 0)) < 2 ^ 62) → ((i : ℕ) → i < g.rows → y i ≡ over_row w column i) → y p ≢ zero_q → whole.IsPivotOf w p column
pivot_of w g y p column h row count small enters nz = record {
  row = subst (λ n. p < n) (sym h.rows) row;
  numbers = record { count = count; small = small };
  not_zero = λ e. nz (enters p row ∙ e);
}

-- a kept column, by its numbers
pub kept_enters : (w : WholeCells) (g : GridCells) (j : ℕ) (column : List ℤ) → IsGridOf w g → j < width g → IsKeptColumn w j column
    → (i : ℕ) → i < g.rows → cell_in g i j ≡ over_row w column i
kept_enters w g j column h hj is i hi = cell_is w g h i j hi hj ∙ sym (is.entries i (subst (λ n. i < n) (sym h.rows) hi))

-- a pivot by a column is one by each column of the same entries
module _ (g : GridCells) (y z : ℕ → Rational) (p : ℕ) (row : p < g.rows) (size : length g.cells ≡ width g * g.rows) (same : (i : ℕ) → i < g.rows → y i ≡ z i) where
  pub on_same : (new : GridCells) → IsPivotOn g y p new → IsPivotOn g z p new
  on_same new h = record {
    rows = h.rows;
    pivoted = record {
      count = h.pivoted.count;
      entries = λ k hk.
          let hi = place_row k (width g) g.rows (subst (λ n. k < n) size hk) in
          h.pivoted.entries k hk ∙ same_cell (cell_in g) (cell_in g) y z p (k % g.rows) (k / g.rows) (same p row) refl (same (k % g.rows) hi) refl;
    };
    narrow = record { nowhere = λ o at. h.narrow.nowhere o (place_same g.rows (cell_in g) (cell_in g) z y p row (λ i j _ _. refl) (λ i hi. sym (same i hi)) o at) };
  }

  pub wide_same : (w : WideAt) → IsWideAt (GridPlaces g y p) w → IsWideAt (GridPlaces g z p) w
  wide_same w = wide_more (GridPlaces g y p) (GridPlaces g z p) w (place_same g.rows (cell_in g) (cell_in g) y z p row (λ i j _ _. refl) same)

  pub refused_same : (e : TableError) → IsRefusedAt (GridPlaces g y p) e → IsRefusedAt (GridPlaces g z p) e
  refused_same (refused.Wide w) h = wide_same w h
  refused_same refused.NoMemory h = tt

-- a pivot of a world that is refused
pub refused_world : (g : GridCells) (y : ℕ → Rational) (entries : List ℤ) (p k : ℕ) → p < g.rows → length g.cells ≡ width g * g.rows
    → ((i : ℕ) → i < g.rows → y i ≡ combined_in g entries i) → (e : TableError) → IsRefusedAt (GridPlaces g y p) e → IsWorldRefusal g p entries k e
refused_world g y entries p k row size same (refused.Wide w) h = inr (wide_same g y (combined_in g entries) p row size same w h)
refused_world g y entries p k row size same refused.NoMemory h = tt

pub err_map : {X E : Type 0} (r : Result X E) (P Q : E → Type 0) → ((e : E) → P e → Q e) → IfErr r P → IfErr r Q
err_map (Ok x) P Q f h = tt
err_map (Err e) P Q f h = f e h

pub ok_map : {X E : Type 0} (r : Result X E) (P Q : X → Type 0) → ((x : X) → P x → Q x) → IfOk r P → IfOk r Q
ok_map (Ok x) P Q f h = f x h
ok_map (Err e) P Q f h = tt

pub some_map : {X : Type 0} (o : Option X) (P Q : X → Type 0) → ((x : X) → P x → Q x) → IfSome o P → IfSome o Q
some_map (Some x) P Q f h = f x h
some_map None P Q f h = tt

pub ok_some_map : {X E : Type 0} (r : Result (Option X) E) (P Q : X → Type 0) → ((x : X) → P x → Q x) → IfOk r (λ o. IfSome o P) → IfOk r (λ o. IfSome o Q)
ok_some_map (Ok o) P Q f h = some_map o P Q f h
ok_some_map (Err e) P Q f h = tt
