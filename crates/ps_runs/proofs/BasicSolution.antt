-- The basic solution of a table: the value of each column.
use Rattle.std.proofs.Common.{◌≡◌, ◌≢◌, ◌⊎◌, ℕ, zero, suc, ◌+◌, ◌-◌, ◌<◌, pos, Bool, true, false, cond, eqb, eq-eqb, ne_eqb, List, [], ◌∷◌, length, get_or, sym, refl, ap, ◌∙◌, subst, arith, inl, inr}
use Rattle.std.proofs.lemmas.Bool.{cases_eq, cases_lt}
use Rattle.ps_meaning.specs.Rational.{Rational, whole, add, mul, sub, zero_q, one_q}
use Rattle.ps_meaning.specs.Order.{IsNonneg}
use Rattle.ps_meaning.specs.Sums.{sum_to}
use Rattle.ps_meaning.proofs.Ring.{var, plus, by, minus, none, unit}
use Rattle.ps_meaning.proofs.Field.{ring_q, mul_comm, one_not_zero}
use Rattle.ps_meaning.proofs.Order.{zero_nonneg}
use Rattle.ps_meaning.proofs.Sums.{sum_split, sum_same, sum_scale, sum_swap, sum_of_zeros, sum_one, unit_sum, sum_nonneg}
use Rattle.ps_meaning.specs.Formula.{World}
use Rattle.ps_simplex.specs.Table.{unit_at}
use Rattle.ps_simplex.proofs.Units.{less_one, unit_at-same, unit_at-other}
use Rattle.ps_simplex.specs.Rule.{SimplexTable, IsFeasible}
use Rattle.ps_runs.specs.Rows.{Setting, artificial_rows, entries_of, rows_of, columns_of, width_of, table_of, IsTable}
use Rattle.ps_runs.specs.Certificates.{value_of}
use Rattle.ps_runs.proofs.Columns.{home_at, world_at}

-- a column is a home or a world
pub column_cases : (n l j : ℕ) → 0 < j → j < suc (n + l) → ((i : ℕ) × (i < n) × (j ≡ suc i)) ⊎ ((k : ℕ) × (k < l) × (j ≡ suc (n + k)))
column_cases n l zero h k = absurd (omega arith)
column_cases n l (suc j) h k =
    elim (cases_lt j n) [
      | inl a ↦ inl (j, a, refl)
      | inr a ↦ inr (j - n, omega arith, omega arith)
    ]

-- a row in which the column is basic, if there is one
pub find_row : (n : ℕ) (basic : ℕ → ℕ) (j : ℕ) → ((i : ℕ) × (i < n) × (basic i ≡ j)) ⊎ ((i : ℕ) → i < n → basic i ≢ j)
find_row zero basic j = inr (λ i l. absurd (omega arith))
find_row (suc n) basic j =
    elim (find_row n basic j) [
      | inl p ↦ inl (p.0, omega (arith, p.1), p.2)
      | inr none_before ↦
          elim (cases_eq (basic n) j) [
            | inl e ↦ inl (n, omega arith, e)
            | inr ne ↦ inr (λ i l. elim (cases_eq i n) [ inl e ↦ subst (λ k. basic k ≢ j) (sym e) ne | inr ni ↦ none_before i (omega arith) ])
          ]
    ]

-- what a row gives to the value of a column: its number where the column is basic in it, else nothing
pub part_here : (b j : ℕ) (x : Rational) → b ≡ j → cond (eqb b j) x zero_q ≡ x
part_here b j x e = ap (λ c. cond c x zero_q) (eq-eqb b j e)

pub part_apart : (b j : ℕ) (x : Rational) → b ≢ j → cond (eqb b j) x zero_q ≡ zero_q
part_apart b j x ne = ap (λ c. cond c x zero_q) (ne_eqb b j ne)

-- a column that is basic in one row alone has that row's value
pub value_in_row : (t : SimplexTable) (i : ℕ) → i < t.rows → ((k : ℕ) → k < t.rows → k ≢ i → t.basic k ≢ t.basic i) → value_of t (t.basic i) ≡ t.entry i 0
value_in_row t i h apart =
    sum_same t.rows (λ k. cond (eqb (t.basic k) (t.basic i)) (t.entry k 0) zero_q) (λ k. mul (t.entry k 0) (cond (eqb (t.basic k) (t.basic i)) one_q zero_q))
    (λ k l. unit_part (eqb (t.basic k) (t.basic i)) (t.entry k 0))
    ∙ unit_sum t.rows i (λ k. t.entry k 0) (λ k. cond (eqb (t.basic k) (t.basic i)) one_q zero_q) h (part_here (t.basic i) (t.basic i) one_q refl)
    (λ k l ne. part_apart (t.basic k) (t.basic i) one_q (apart k l ne))
  where
    unit_part : (b : Bool) (x : Rational) → cond b x zero_q ≡ mul x (cond b one_q zero_q)
    unit_part true x = ring_q (x ∷ []) (var 0) (by (var 0) unit) refl
    unit_part false x = ring_q (x ∷ []) none (by (var 0) none) refl

-- one that is basic in no row has value 0
pub value_in_none : (t : SimplexTable) (j : ℕ) → ((i : ℕ) → i < t.rows → t.basic i ≢ j) → value_of t j ≡ zero_q
value_in_none t j h =
    sum_same t.rows (λ i. cond (eqb (t.basic i) j) (t.entry i 0) zero_q) (λ _. zero_q) (λ i l. part_apart (t.basic i) j (t.entry i 0) (h i l)) ∙ sum_of_zeros t.rows

-- a sum over rows by basic columns is a sum over all columns
pub basic_sum : (n w : ℕ) (basic : ℕ → ℕ) (x g : ℕ → Rational) → ((i : ℕ) → i < n → basic i < w)
    → sum_to n (λ i. mul (x i) (g (basic i))) ≡ sum_to w (λ j. mul (sum_to n (λ i. cond (eqb (basic i) j) (x i) zero_q)) (g j))
basic_sum n w basic x g h =
    sum_same n (λ i. mul (x i) (g (basic i))) (λ i. sum_to w (λ j. mul (cond (eqb (basic i) j) (x i) zero_q) (g j)))
    (λ i l. ap (λ k. mul k (g (basic i))) (sym (part_here (basic i) (basic i) (x i) refl))
    ∙ sym (sum_one w (basic i) (λ j. mul (cond (eqb (basic i) j) (x i) zero_q) (g j)) (h i l)
    (λ j ne. ap (λ k. mul k (g j)) (part_apart (basic i) j (x i) (λ e. ne (sym e))) ∙ ring_q (g j ∷ []) (by none (var 0)) none refl)))
    ∙ sum_swap n w (λ i j. mul (cond (eqb (basic i) j) (x i) zero_q) (g j))
    ∙ sum_same w (λ j. sum_to n (λ i. mul (cond (eqb (basic i) j) (x i) zero_q) (g j))) (λ j. mul (sum_to n (λ i. cond (eqb (basic i) j) (x i) zero_q)) (g j))
    (λ j l. sum_same n (λ i. mul (cond (eqb (basic i) j) (x i) zero_q) (g j)) (λ i. mul (g j) (cond (eqb (basic i) j) (x i) zero_q)) (λ i r. mul_comm (cond (eqb (basic i) j) (x i) zero_q) (g j))
    ∙ sym (sum_scale n (g j) (λ i. cond (eqb (basic i) j) (x i) zero_q))
    ∙ mul_comm (g j) (sum_to n (λ i. cond (eqb (basic i) j) (x i) zero_q)))

module _ (s : Setting) (pool : List World) (basic : ℕ → ℕ) (X : ℕ → ℕ → Rational) (t : IsTable s pool basic X) where
  abbrev n : ℕ
  n = rows_of s

  abbrev f : SimplexTable
  f = table_of s pool basic X

  abbrev value : ℕ → Rational
  value j = value_of f j

  pub value_apart : (j : ℕ) → ((i : ℕ) → i < n → basic i ≢ j) → value j ≡ zero_q
  value_apart j h = value_in_none f j h

  pub value_right : value 0 ≡ zero_q
  value_right = value_apart 0 (λ i l e. let k = t.first i l in absurd (omega (arith, k, e)))

  basics_apart : (i k : ℕ) → i < n → k < n → k ≢ i → basic k ≢ basic i
  basics_apart i k h l ne e = one_not_zero (sym (t.stands.here i h) ∙ sym (ap (X i) e) ∙ t.stands.apart i k h l ne)

  -- a basic column has the value of its row
  pub value_here : (i : ℕ) → i < n → value (basic i) ≡ X i 0
  value_here i h = value_in_row f i h (λ k l ne. basics_apart i k h l ne)

  pub value_nonneg : (j : ℕ) → IsNonneg (value j)
  value_nonneg j = sum_nonneg n (λ i. cond (eqb (basic i) j) (X i 0) zero_q) (λ i l. signed_part (eqb (basic i) j) (X i 0) (t.values i l))
    where
      signed_part : (b : Bool) (x : Rational) → IsNonneg x → IsNonneg (cond b x zero_q)
      signed_part true x h = h
      signed_part false x h = zero_nonneg

  -- an artificial's value is 0 in a feasible table
  pub value_artificial : (j : ℕ) → IsFeasible f → get_or (artificial_rows s) (j - 1) false ≡ true → value j ≡ zero_q
  value_artificial j feasible e =
      sum_same n (λ i. cond (eqb (basic i) j) (X i 0) zero_q) (λ _. zero_q)
      (λ i l. elim (cases_eq (basic i) j) [
        | inl b ↦ part_here (basic i) j (X i 0) b ∙ feasible.zero i l (ap (λ k. get_or (artificial_rows s) (k - 1) false) b ∙ e)
        | inr b ↦ part_apart (basic i) j (X i 0) b
      ])
      ∙ sum_of_zeros n

  homes_sum : (m : ℕ) → m < n → sum_to (suc n) (λ j. mul (value j) (columns_of s pool m j)) ≡ value (suc m)
  homes_sum m h =
      sum_same (suc n) (λ j. mul (value j) (columns_of s pool m j)) (λ j. mul (value j) (unit_at m (j - 1))) (λ j l. ap (mul (value j)) (home_at s pool m j (omega arith)))
      ∙ sum_one (suc n) (suc m) (λ j. mul (value j) (unit_at m (j - 1))) (omega arith) others
      ∙ ap (mul (value (suc m))) (ap (unit_at m) (less_one m) ∙ unit_at-same m)
      ∙ ring_q (value (suc m) ∷ []) (by (var 0) unit) (var 0) refl
    where
      others : (j : ℕ) → j ≢ suc m → mul (value j) (unit_at m (j - 1)) ≡ zero_q
      others zero ne = ap (λ k. mul k (unit_at m (0 - 1))) value_right ∙ ring_q (unit_at m (0 - 1) ∷ []) (by none (var 0)) none refl
      others (suc j) ne = ap (mul (value (suc j))) (ap (unit_at m) (less_one j) ∙ unit_at-other m j (omega arith)) ∙ ring_q (value (suc j) ∷ []) (by (var 0) none) none refl

  -- the worlds' values solve each row, up to the value of its home
  pub row_solved : (m : ℕ) → m < n
      → sum_to (length pool) (λ k. mul (value (suc (n + k))) (whole (get_or (entries_of s (get_or pool k [])) m (pos 0)))) ≡ sub (unit_at m 0) (value (suc m))
  row_solved m h =
      let all : unit_at m 0 ≡ sum_to (width_of s pool) (λ j. mul (value j) (columns_of s pool m j)) =
      sym (home_at s pool m 0 (omega arith)) ∙ sym (t.stands.belongs m 0 h (omega arith)) ∙ basic_sum n (width_of s pool) basic (λ i. X i 0) (columns_of s pool m) t.last in
      let worlds : sum_to (length pool) (λ k. mul (value (suc (n + k))) (columns_of s pool m (suc (n + k)))) ≡ sum_to (length pool) (λ k. mul (value (suc (n + k))) (whole (get_or (entries_of s (get_or pool k [])) m (pos 0)))) =
      sum_same (length pool) (λ k. mul (value (suc (n + k))) (columns_of s pool m (suc (n + k)))) (λ k. mul (value (suc (n + k))) (whole (get_or (entries_of s (get_or pool k [])) m (pos 0))))
      (λ k l. ap (mul (value (suc (n + k)))) (world_at s pool m k)) in
      let parts : unit_at m 0 ≡ add (value (suc m)) (sum_to (length pool) (λ k. mul (value (suc (n + k))) (whole (get_or (entries_of s (get_or pool k [])) m (pos 0))))) =
      all ∙ sum_split n (length pool) (λ j. mul (value j) (columns_of s pool m j)) ∙ (λ i. add (homes_sum m h i) (worlds i)) in
      ring_q (value (suc m) ∷ (sum_to (length pool) (λ k. mul (value (suc (n + k))) (whole (get_or (entries_of s (get_or pool k [])) m (pos 0)))) ∷ [])) (var 1) (plus (plus (var 0) (var 1)) (minus (var 0))) refl
      ∙ ap (λ k. sub k (value (suc m))) (sym parts)
