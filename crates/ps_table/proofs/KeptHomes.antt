-- The first rows of whole numbers.
use Rattle.std.proofs.Common.{◌≡◌, ℕ, suc, ◌-◌, ◌*◌, ◌/◌, ◌%◌, ◌<◌, ℤ, arith, sym, ap, ◌∙◌, subst, inl, inr}
use Rattle.std.proofs.lemmas.Bool.{cases_eq}
use Rattle.ps_meaning.specs.Rational.{fraction}
use Rattle.ps_whole.specs.Whole.{WholeCells, whole_at}
use Rattle.ps_whole.proofs.FirstRows as first
use Rattle.ps_whole.specs.Homes.{IsOfHomes, home_at}
use Rattle.ps_simplex.specs.Table.{unit_at}
use Rattle.ps_table.specs.Grids.{AreUnits}
use Rattle.ps_table.specs.KeptCells.{entry_in, whole_list}
use Rattle.ps_table.proofs.Columns.{home_one, home_zero}
use Rattle.ps_table.proofs.KeptCells.{list_entry, place_row, place_column}

-- the homes
home_unit : (i j : ℕ) → fraction (home_at i j) 1 ≡ unit_at i (j - 1)
home_unit i j = elim (cases_eq i (j - 1)) [
  | inl same ↦ ap (λ (b : ℤ). fraction b 1) (sym (first.home_one i j same)) ∙ home_one i (j - 1) same
  | inr ne ↦ ap (λ (b : ℤ). fraction b 1) (sym (first.home_zero i j ne)) ∙ home_zero i (j - 1) ne
]

pub homes_are_units : (n : ℕ) (w : WholeCells) → IsOfHomes n w → AreUnits n (whole_list w)
homes_are_units n w h k l =
    let hi = place_row k (suc n) n l in
    let hj : k / n < suc n = place_column k (suc n) n l in
    list_entry (w.width * w.rows) (entry_in w) k (subst (λ m. k < m) (sym (λ z. h.width_is z * h.rows_are z)) l)
    ∙ (λ z. whole_at w (k % h.rows_are z) (k / h.rows_are z))
    ∙ (λ z. fraction (h.numbers (k % n) (k / n) hi (omega (arith, hj)) z) (h.unders (k % n) z))
    ∙ home_unit (k % n) (k / n)
