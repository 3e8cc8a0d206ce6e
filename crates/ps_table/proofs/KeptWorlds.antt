-- Columns of worlds over rows of whole numbers are those over the grid.
use Rattle.std.proofs.Common.{◌≡◌, ℕ, suc, ◌<◌, ◌≤◌, List, length, get_or, ℤ, pos, arith, sym, ap, ◌∙◌, subst}
use Rattle.ps_meaning.specs.Rational.{Rational, fraction, mul}
use Rattle.ps_meaning.specs.Sums.{sum_to}
use Rattle.ps_meaning.specs.Wide.{ProductIsWide, SumIsWide}
use Rattle.ps_meaning.proofs.Sums.{sum_same}
use Rattle.ps_whole.specs.Whole.{WholeCells, whole_at}
use Rattle.ps_whole.specs.Pivots.{over_row}
use Rattle.ps_whole.specs.Columns as whole
use Rattle.ps_table.specs.Tableau.{column_part}
use Rattle.ps_table.specs.Grids.{GridCells, cell_in, IsNarrowPart, IsCombined, combined_in}
use Rattle.ps_table.specs.KeptCells.{IsColumnNarrow}
use Rattle.ps_table.proofs.Narrow.{column_narrow}
use Rattle.ps_table.proofs.KeptCells.{IsGridOf, cell_is}

module _ (w : WholeCells) (g : GridCells) (entries : List ℤ) (k : ℕ) (h : IsGridOf w g) (count : length entries ≡ g.rows) where
  home_in : (i m : ℕ) → i < g.rows → m < g.rows → cell_in g i (suc m) ≡ whole_at w i (suc m)
  home_in i m hi hm = cell_is w g h i (suc m) hi (omega (arith, hm))

  parts_same : (i n : ℕ) → i < g.rows → n ≤ g.rows → sum_to n (column_part (cell_in g) entries i) ≡ sum_to n (whole.column_part (whole_at w) entries i)
  parts_same i n hi hn = sum_same n (column_part (cell_in g) entries i) (whole.column_part (whole_at w) entries i)
      (λ m l. ap (λ x. mul x (fraction (get_or entries m (pos 0)) 1)) (home_in i m hi (omega (arith, hn, l))))

  parts_narrow : (i : ℕ) → i < g.rows → (x : Rational) → whole.IsCellOf w entries i x → (m : ℕ) → m < g.rows → IsNarrowPart (cell_in g) entries i m
  parts_narrow i hi x c m hm =
      let e = home_in i m hi hm in
      let hw : m < length entries = subst (λ n. m < n) (sym count) hm in
      record {
        times = λ a. c.products m hw (subst (λ b. ProductIsWide b (fraction (get_or entries m (pos 0)) 1)) e a);
        plus = λ a. c.sums m hw (subst (λ b. SumIsWide b (whole.column_part (whole_at w) entries i m)) (parts_same i m hi (omega (arith, hm)))
            (subst (λ b. SumIsWide (sum_to m (column_part (cell_in g) entries i)) b) (ap (λ y. mul y (fraction (get_or entries m (pos 0)) 1)) e) a));
      }

  value_same : (i : ℕ) → i < g.rows → (x : Rational) → whole.IsCellOf w entries i x → x ≡ combined_in g entries i
  value_same i hi x c =
      c.value ∙ ap (λ n. sum_to n (whole.column_part (whole_at w) entries i)) count ∙ sym (parts_same i g.rows hi (omega arith))

  pub whole_combined : (i : ℕ) → i < g.rows → (x : Rational) → whole.IsCellOf w entries i x → IsCombined g entries k i x
  whole_combined i hi x c = record {
    value = value_same i hi x c;
    narrow = column_narrow g.rows (cell_in g) entries k i (parts_narrow i hi x c);
  }

  in_whole : (i : ℕ) → i < g.rows → i < w.rows
  in_whole i hi = subst (λ n. i < n) (sym h.rows) hi

  pub made_enters : (column : List ℤ) → whole.IsMadeColumn w entries column → (i : ℕ) → i < g.rows → combined_in g entries i ≡ over_row w column i
  made_enters column is i hi = sym (value_same i hi (over_row w column i) (is.cells i (in_whole i hi)))

  pub made_narrow : (column : List ℤ) → whole.IsMadeColumn w entries column → IsColumnNarrow g entries k
  made_narrow column is i hi = column_narrow g.rows (cell_in g) entries k i (parts_narrow i hi (over_row w column i) (is.cells i (in_whole i hi)))
