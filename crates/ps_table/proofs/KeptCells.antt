-- Entries as they are kept, and the cells of the grid.
use Rattle.std.proofs.Common.{◌≡◌, ℕ, zero, suc, ◌+◌, ◌*◌, ◌/◌, ◌%◌, ◌<◌, List, [], ◌∷◌, ◌++◌, length, get_or, pos, ◌*ℤ◌, arith, refl, sym, ap, ◌∙◌, subst, inl, inr}
use Rattle.std.proofs.lemmas.Bool.{cases_eq}
use Rattle.std.proofs.lemmas.List.{length-append}
use Rattle.std.proofs.lemmas.Nat.{mod-mul-add, div-mul-add}
use Rattle.std.proofs.Math.ListN.{get_or-append}
use Rattle.std.proofs.Math.Seq.{get_or-append_seam}
use Rattle.std.proofs.Math.Nat.{mod-lt, div-lt_iff_lt-mul}
use Rattle.ps_meaning.specs.Rational.{Rational, fraction, zero_q}
use Rattle.ps_whole.specs.Whole.{WholeCells, whole_at, number_at, under_at}
use Rattle.ps_table.specs.Grids.{GridCells, width, cell_in, cells_of, IsGrid}
use Rattle.ps_table.specs.KeptCells.{list_to, entry_in, whole_list, list_of, HaveSize, AreKept}
use Rattle.ps_table.proofs.Columns.{cell_within}
use Rattle.ps_table.specs.declared.kept.Cells.{Cells}
use Rattle.ps_table.specs.declared.kept.Cells.TheVariants as kept
use Rattle.ps_meaning.proofs.Cross.{quotient-same}
use Rattle.ps_meaning.proofs.Field.{zero_is_fraction}
use Rattle.ps_meaning.specs.Rational.{at_least_one}
use Rattle.std.proofs.lemmas.Int.{ints}

pub list_length : (n : ℕ) (f : ℕ → Rational) → length (list_to n f) ≡ n
list_length zero f = refl
list_length (suc n) f =
    let e : length (list_to n f ++ f n ∷ []) ≡ length (list_to n f) + 1 = length-append (list_to n f) (f n ∷ []) in
    omega (arith, e, list_length n f)

pub list_entry : (n : ℕ) (f : ℕ → Rational) (k : ℕ) → k < n → get_or (list_to n f) k zero_q ≡ f k
list_entry zero f k l = absurd (omega (arith, l))
list_entry (suc n) f k l = elim (cases_eq k n) [
  | inl same ↦ subst (λ m. get_or (list_to n f ++ f n ∷ []) m zero_q ≡ f m) (sym same)
      (ap (λ m. get_or (list_to n f ++ f n ∷ []) m zero_q) (sym (list_length n f)) ∙ get_or-append_seam (list_to n f) (f n) [] zero_q)
  | inr ne ↦ get_or-append (list_to n f) (f n ∷ []) zero_q k (omega (arith, list_length n f, l, ne)) ∙ list_entry n f k (omega (arith, l, ne))
]

-- one value more
pub list_next : (n : ℕ) (f : ℕ → Rational) (now items : List Rational) (x : Rational) → now ≡ list_to n f → items ≡ now ++ x ∷ [] → x ≡ f n → items ≡ list_to (n + 1) f
list_next n f now items x e push value =
    let s : suc n ≡ n + 1 = omega arith in
    push ∙ (λ z. e z ++ value z ∷ []) ∙ ap (λ m. list_to m f) s

-- a row and a column of each place
pub place_row : (k w n : ℕ) → k < w * n → k % n < n
place_row k w zero l = absurd (omega (arith, l))
place_row k w (suc n) l = mod-lt k (omega arith)

pub place_column : (k w n : ℕ) → k < w * n → k / n < w
place_column k w zero l = absurd (omega (arith, l))
place_column k w (suc n) l = (div-lt_iff_lt-mul (omega arith)).1 l

-- the cells of rows of whole numbers
pub grid_cell : (w : WholeCells) (i j : ℕ) → i < w.rows → j < w.width → get_or (whole_list w) (j * w.rows + i) zero_q ≡ whole_at w i j
grid_cell w i j hi hj =
    list_entry (w.width * w.rows) (entry_in w) (j * w.rows + i) (cell_within i j w.rows w.width (w.width * w.rows) hi hj refl)
    ∙ (λ z. whole_at w (mod-mul-add j w.rows i hi z) (div-mul-add j w.rows i hi z))

-- a grid whose cells are those of rows of whole numbers
pub record IsGridOf (w : WholeCells) (g : GridCells) : Type 0 where
  pub rows : w.rows ≡ g.rows
  pub columns : w.width ≡ width g
  pub cells : g.cells ≡ whole_list w

pub cell_is : (w : WholeCells) (g : GridCells) → IsGridOf w g → (i j : ℕ) → i < g.rows → j < width g → cell_in g i j ≡ whole_at w i j
cell_is w g h i j hi hj =
    (λ z. get_or (h.cells z) (j * sym h.rows z + i) zero_q)
    ∙ grid_cell w i j (subst (λ n. i < n) (sym h.rows) hi) (subst (λ n. j < n) (sym h.columns) hj)

-- the cells as they are kept are those of the grid
pub size_of : (n : ℕ) (cells : Cells) → HaveSize n cells → length (list_of cells) ≡ suc n * n
size_of n (kept.Whole w) h = list_length (w.width * w.rows) (entry_in w) ∙ (λ z. h.1 z * h.0 z)
size_of n (kept.Fractions v) h = h

pub kept_is_grid : (n : ℕ) (cells : Cells) (g : GridCells) → AreKept n cells → cells_of n (list_of cells) ≡ g → IsGrid g
kept_is_grid n cells g ok view = subst IsGrid view (record { few = ok.few; size = size_of n cells ok.size })

pub kept_is_whole : (n : ℕ) (cells : Cells) (w : WholeCells) (g : GridCells) → AreKept n cells → cells ≡ kept.Whole w
    → cells_of n (list_of cells) ≡ g → IsGridOf w g
kept_is_whole n cells w g ok is view =
    let size : HaveSize n (kept.Whole w) = subst (HaveSize n) is ok.size in
    subst (IsGridOf w) view (record { rows = size.0; columns = size.1; cells = ap list_of is })

-- no cell, and one cell more of a column
pub no_cells : (f : ℕ → Rational) → (i : ℕ) → i < 0 → get_or [] i zero_q ≡ f i
no_cells f i l = absurd (omega (arith, l))

pub cells_next : (n : ℕ) (f : ℕ → Rational) (now items : List Rational) (x : Rational) → length now ≡ n → ((i : ℕ) → i < n → get_or now i zero_q ≡ f i)
    → items ≡ now ++ x ∷ [] → x ≡ f n → (i : ℕ) → i < n + 1 → get_or items i zero_q ≡ f i
cells_next n f now items x count before push value i l = elim (cases_eq i n) [
  | inl same ↦ ap (λ zs. get_or zs i zero_q) push ∙ ap (λ m. get_or (now ++ x ∷ []) m zero_q) (same ∙ sym count) ∙ get_or-append_seam now x [] zero_q ∙ value ∙ ap f (sym same)
  | inr ne ↦ ap (λ zs. get_or zs i zero_q) push ∙ get_or-append now (x ∷ []) zero_q i (omega (arith, l, ne, count)) ∙ before i (omega (arith, l, ne))
]

-- an entry whose number is 0
pub whole_zero : (w : WholeCells) (i j : ℕ) → number_at w i j ≡ pos 0 → whole_at w i j ≡ zero_q
whole_zero w i j e =
    let d = at_least_one (under_at w i) in
    let cross : pos 0 *ℤ pos (at_least_one 1).value ≡ pos 0 *ℤ pos d.value = omega (arith, ints) in
    ap (λ z. fraction z (under_at w i)) e ∙ quotient-same (pos 0) (pos 0) d (at_least_one 1) cross ∙ zero_is_fraction
