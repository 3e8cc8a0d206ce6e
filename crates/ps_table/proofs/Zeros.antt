-- A cell with a 0 in the pivot's row or column, and parts of sums that are 0.
use Rattle.std.proofs.Common.{◌≡◌, ◌≢◌, ℕ, suc, ◌<◌, List, [], ◌∷◌, get_or, sym, refl, ap, ◌∙◌, subst, inl, inr, ℤ, pos}
use Rattle.ps_meaning.specs.Rational.{Rational, add, mul, sub, neg, div, inverse, fraction, zero_q}
use Rattle.ps_meaning.specs.Wide.{Fits, size_limit, ProductIsWide, SumIsWide}
use Rattle.ps_meaning.proofs.Ring.{var, plus, by, minus, none}
use Rattle.ps_meaning.proofs.Field.{ring_q, zero_is_fraction}
use Rattle.ps_meaning.proofs.Zeros.{left_narrow, right_narrow, sum_narrow, difference_narrow}
use Rattle.ps_table.specs.Tableau.{world_entry}
use Rattle.ps_table.specs.declared.pivot.Pivot.{Pivot}
use Rattle.ps_table.specs.Grids.{GridCells, cell_in, enters, scaled_in, lost_in, pivoted_in, LosesNothing, IsCellNarrow, AddsNothing, part_in, sum_in, IsNarrowPart}
use Rattle.ps_table.proofs.Columns.{pivot_own, pivot_other}

-- 0 divided by the pivot's entry
pub zero_scaled : (x by : Rational) → x ≡ zero_q → x ≡ div x by
zero_scaled x y e = e ∙ ring_q (inverse y ∷ []) none (by none (var 0)) refl ∙ ap (λ k. div k y) (sym e)

-- the pivot's own row
pub own_scaled : (g : GridCells) (p : Pivot) (i j : ℕ) → i ≡ p.row → scaled_in g p j ≡ pivoted_in g p i j
own_scaled g p i j e = sym (pivot_own (cell_in g) (enters p) p.row j) ∙ ap (λ k. pivoted_in g p k j) (sym e)

pub own_kept : (g : GridCells) (p : Pivot) (i j : ℕ) → i ≡ p.row → cell_in g p.row j ≡ zero_q → cell_in g i j ≡ pivoted_in g p i j
own_kept g p i j e zero = ap (λ k. cell_in g k j) e ∙ zero_scaled (cell_in g p.row j) (enters p p.row) zero ∙ own_scaled g p i j e

pub zero_scale_narrow : (x y : Rational) → x ≡ zero_q → ¬ ProductIsWide x (inverse y)
zero_scale_narrow x y e = subst (λ k. ¬ ProductIsWide k (inverse y)) (sym e) (left_narrow (inverse y))

module _ (g : GridCells) (p : Pivot) (i j : ℕ) (zero : LosesNothing g p i j) where
  nothing : lost_in g p i j ≡ zero_q
  nothing = elim zero [
    | inl e ↦ ap (mul (enters p i)) e ∙ ring_q (enters p i ∷ []) (by (var 0) none) none refl
    | inr e ↦ ap (λ k. mul k (scaled_in g p j)) e ∙ ring_q (scaled_in g p j ∷ []) (by none (var 0)) none refl
  ]

  pub kept_value : i ≢ p.row → cell_in g i j ≡ pivoted_in g p i j
  kept_value ne =
      ring_q (cell_in g i j ∷ []) (var 0) (plus (var 0) (minus none)) refl
      ∙ ap (sub (cell_in g i j)) (sym nothing)
      ∙ sym (pivot_other (cell_in g) (enters p) p.row i j ne)

  pub kept_narrow : Fits (cell_in g i j).over → (cell_in g i j).under < size_limit → IsCellNarrow g p i j
  kept_narrow ho hu = record {
    times = elim zero [
      | inl e ↦ subst (λ k. ¬ ProductIsWide (enters p i) k) (sym e) (right_narrow (enters p i))
      | inr e ↦ subst (λ k. ¬ ProductIsWide k (scaled_in g p j)) (sym e) (left_narrow (scaled_in g p j))
    ];
    minus = subst (λ k. ¬ SumIsWide (cell_in g i j) (neg k)) (sym nothing) (difference_narrow (cell_in g i j) ho hu);
  }

-- an entry at cost 0, and an entry 0
pub zero_cost : (cost : ℤ) (x : Rational) → cost ≡ pos 0 → mul (fraction cost 1) x ≡ zero_q
zero_cost cost x e = ap (λ z. mul (fraction z 1) x) e ∙ ap (λ k. mul k x) zero_is_fraction ∙ ring_q (x ∷ []) (by none (var 0)) none refl

pub zero_entry : (cost : ℤ) (x : Rational) → x ≡ zero_q → mul (fraction cost 1) x ≡ zero_q
zero_entry cost x e = ap (mul (fraction cost 1)) e ∙ ring_q (fraction cost 1 ∷ []) (by (var 0) none) none refl

-- 0 added to a number
pub zero_added : (x y : Rational) → y ≡ zero_q → x ≡ add x y
zero_added x y e = ring_q (x ∷ []) (var 0) (plus (var 0) none) refl ∙ ap (add x) (sym e)

pub zero_sum_narrow : (x y : Rational) → y ≡ zero_q → Fits x.over → x.under < size_limit → ¬ SumIsWide x y
zero_sum_narrow x y e ho hu = subst (λ k. ¬ SumIsWide x k) (sym e) (sum_narrow x ho hu)

module _ (g : GridCells) (entries : List ℤ) (i m : ℕ) (zero : AddsNothing g entries i m) where
  whole_zero : get_or entries m (pos 0) ≡ pos 0 → world_entry entries m ≡ zero_q
  whole_zero e = ap (λ z. fraction z 1) e ∙ zero_is_fraction

  no_part : part_in g entries i m ≡ zero_q
  no_part = elim zero [
    | inl e ↦ ap (mul (cell_in g i (suc m))) (whole_zero e) ∙ ring_q (cell_in g i (suc m) ∷ []) (by (var 0) none) none refl
    | inr e ↦ ap (λ k. mul k (world_entry entries m)) e ∙ ring_q (world_entry entries m ∷ []) (by none (var 0)) none refl
  ]

  pub same_sum : sum_in g entries i m ≡ sum_in g entries i (suc m)
  same_sum = zero_added (sum_in g entries i m) (part_in g entries i m) no_part

  pub part_narrow : Fits (sum_in g entries i m).over → (sum_in g entries i m).under < size_limit → IsNarrowPart (cell_in g) entries i m
  part_narrow ho hu = record {
    times = elim zero [
      | inl e ↦ subst (λ k. ¬ ProductIsWide (cell_in g i (suc m)) k) (sym (whole_zero e)) (right_narrow (cell_in g i (suc m)))
      | inr e ↦ subst (λ k. ¬ ProductIsWide k (world_entry entries m)) (sym e) (left_narrow (world_entry entries m))
    ];
    plus = zero_sum_narrow (sum_in g entries i m) (part_in g entries i m) no_part ho hu;
  }
