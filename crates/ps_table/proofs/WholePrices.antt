-- Prices over one denominator are those of a table.
use Rattle.std.proofs.Common.{◌≡◌, ℕ, suc, ◌<◌, ◌≤◌, List, length, get_or, ℤ, pos, arith, sym, ap, ◌∙◌, subst}
use Rattle.ps_meaning.specs.Rational.{Rational, mul, zero_q}
use Rattle.ps_meaning.specs.Sums.{sum_to}
use Rattle.ps_meaning.specs.Wide.{ProductIsWide, SumIsWide}
use Rattle.ps_meaning.proofs.Sums.{sum_same}
use Rattle.ps_whole.specs.Whole.{WholeCells, whole_at}
use Rattle.ps_whole.specs.Columns as whole
use Rattle.ps_whole.specs.Rows.{IsRowOf}
use Rattle.ps_table.specs.declared.costs.Costs.{Costs}
use Rattle.ps_table.specs.Tableau.{Tableau, rows_of, entries_of, world_entry}
use Rattle.ps_table.specs.Pricing.{multiplier_of}
use Rattle.ps_table.specs.Places.{price_part}
use Rattle.ps_table.specs.Prices.{AreMultipliers, IsNarrowPrice, IsWholePrice, price_to, at}

-- the same multipliers price the same
parts_same : (n : ℕ) (a b : ℕ → Rational) (entries : List ℤ) → ((m : ℕ) → m < n → a m ≡ b m) → sum_to n (price_part a entries) ≡ sum_to n (price_part b entries)
parts_same n a b entries h = sum_same n (price_part a entries) (price_part b entries) (λ m l. ap (λ x. mul x (world_entry entries m)) (h m l))

-- a row of whole numbers
module _ (multipliers : List Rational) (w : WholeCells) (entries : List ℤ) (row : IsRowOf multipliers w) (count : length entries ≡ length multipliers) where
  of_row : ℕ → Rational
  of_row m = whole_at w 0 (suc m)

  same : (m : ℕ) → m < length entries → whole_at w 0 (suc m) ≡ at multipliers m
  same m l = row.cells m (subst (λ n. m < n) count l)

  sums : (n : ℕ) → n ≤ length entries → sum_to n (whole.column_part (whole_at w) entries 0) ≡ sum_to n (price_part (at multipliers) entries)
  sums n h = sum_same n (whole.column_part (whole_at w) entries 0) (price_part (at multipliers) entries) (λ m l. ap (λ x. mul x (world_entry entries m)) (same m (omega (arith, l, h))))

  pub whole_price : (x : Rational) → whole.IsCellOf w entries 0 x → IsWholePrice multipliers entries x
  whole_price x c = record {
    value = c.value ∙ sums (length entries) (omega arith);
    times = λ m l wide. c.products m l (subst (λ k. ProductIsWide k (world_entry entries m)) (sym (same m l)) wide);
    plus = λ m l wide. c.sums m l
        (subst (λ k. SumIsWide k (whole.column_part (whole_at w) entries 0 m)) (sym (sums m (omega (arith, l))))
        (subst (λ k. SumIsWide (sum_to m (price_part (at multipliers) entries)) k) (ap (λ x. mul x (world_entry entries m)) (sym (same m l))) wide));
  }

-- the multipliers of a table
module _ (t : Tableau) (costs : Costs) (k : ℕ) (multipliers : List Rational) (entries : List ℤ) (x : Rational) (are : AreMultipliers t costs multipliers)
    (is : entries ≡ entries_of t k) (count : length entries ≡ rows_of t) (price : IsWholePrice multipliers entries x) where
  each : (m : ℕ) → m < rows_of t → at multipliers m ≡ multiplier_of t costs m
  each = are.each

  here : (m : ℕ) → m < rows_of t → m < length entries
  here m l = subst (λ n. m < n) (sym count) l

  to_table : (n : ℕ) → n ≤ rows_of t → sum_to n (price_part (at multipliers) entries) ≡ price_to t costs k n
  to_table n h = parts_same n (at multipliers) (multiplier_of t costs) entries (λ m l. each m (omega (arith, l, h))) ∙ ap (λ es. sum_to n (price_part (multiplier_of t costs) es)) is

  part : (m : ℕ) → m < rows_of t → price_part (at multipliers) entries m ≡ price_part (multiplier_of t costs) (entries_of t k) m
  part m l = λ z. mul (each m l z) (world_entry (is z) m)

  pub price_value : x ≡ price_to t costs k (rows_of t)
  price_value = price.value ∙ ap (λ n. sum_to n (price_part (at multipliers) entries)) count ∙ to_table (rows_of t) (omega arith)

  pub price_parts : (m : ℕ) → m < rows_of t → IsNarrowPrice t costs k m
  price_parts m l = record {
    times = λ wide. price.times m (here m l) (subst (λ q. ProductIsWide q (world_entry entries m)) (sym (each m l)) (subst (λ es. ProductIsWide (multiplier_of t costs m) (world_entry es m)) (sym is) wide));
    plus = λ wide. price.plus m (here m l)
        (subst (λ q. SumIsWide q (price_part (at multipliers) entries m)) (sym (to_table m (omega (arith, l))))
        (subst (λ q. SumIsWide (price_to t costs k m) q) (sym (part m l)) wide));
  }
