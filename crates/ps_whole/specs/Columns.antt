-- Columns that aren't kept: what the homes times some entries come to.
use Rattle.std.specs.Prelude.{◌≡◌, ℕ, suc, ◌+◌, ◌<◌, ◌≤◌, ◌^◌, List, get_or, ℤ, pos, ◌*ℤ◌, unsigned_abs, length}
use Rattle.ps_meaning.specs.Rational.{Rational, fraction, mul}
use Rattle.ps_meaning.specs.Sums.{sum_to, int_sum_to}
use Rattle.ps_meaning.specs.Wide.{ProductIsWide, SumIsWide}
use Rattle.ps_whole.specs.Whole.{WholeCells, number_at, whole_at}
use Rattle.ps_whole.specs.Pivots.{over_row}

-- the number of the home of row m in row i, times entry m
abbrev pub number_part : WholeCells → List ℤ → ℕ → ℕ → ℤ
number_part w entries i m = number_at w i (suc m) *ℤ get_or entries m (pos 0)

-- the sum of the first n of these products; it is small, and those of fewer products are
pub record IsPartSum (w : WholeCells) (entries : List ℤ) (i n : ℕ) (v : ℤ) : Type 0 where
  pub value : v ≡ int_sum_to n (number_part w entries i)
  pub small : (m : ℕ) → m ≤ n → unsigned_abs (int_sum_to m (number_part w entries i)) < 2 ^ 62
  pub entries_fit : (m : ℕ) → m < n → unsigned_abs (get_or entries m (pos 0)) ≤ 2 ^ 63

-- all of these products
abbrev pub IsWholeSum : WholeCells → List ℤ → ℕ → ℤ → Type 0
IsWholeSum w entries i v = IsPartSum w entries i (length entries) v

-- entry m of a column, times the home of row m in row i
abbrev pub column_part : (ℕ → ℕ → Rational) → List ℤ → ℕ → ℕ → Rational
column_part X entries i m = mul (X i (suc m)) (fraction (get_or entries m (pos 0)) 1)

-- row i of the column of n entries, and no operation for it is too large
pub record IsColumnCell (X : ℕ → ℕ → Rational) (n : ℕ) (entries : List ℤ) (i : ℕ) (x : Rational) : Type 0 where
  pub value : x ≡ sum_to n (column_part X entries i)
  pub products : (m : ℕ) → m < n → ¬ ProductIsWide (X i (suc m)) (fraction (get_or entries m (pos 0)) 1)
  pub sums : (m : ℕ) → m < n → ¬ SumIsWide (sum_to m (column_part X entries i)) (column_part X entries i m)

-- row i of the column of the entries, one for each home
abbrev pub IsCellOf : WholeCells → List ℤ → ℕ → Rational → Type 0
IsCellOf w entries i x = IsColumnCell (whole_at w) (length entries) entries i x

-- ---- the numbers of a column
-- n small numbers, of which each has the property of its row
pub record AreNumbersTo (P : ℕ → ℤ → Type 0) (n : ℕ) (made : List ℤ) : Type 0 where
  pub count : length made ≡ n
  pub small : (i : ℕ) → unsigned_abs (get_or made i (pos 0)) < 2 ^ 62
  pub here : (i : ℕ) → i < n → P i (get_or made i (pos 0))

-- the number is that of row i in column j
abbrev pub IsNumberIn : WholeCells → ℕ → ℕ → ℤ → Type 0
IsNumberIn w j i v = v ≡ number_at w i j

-- the numbers of column j
pub record IsKeptColumn (w : WholeCells) (j : ℕ) (made : List ℤ) : Type 0 where
  pub count : length made ≡ w.rows
  pub small : (i : ℕ) → unsigned_abs (get_or made i (pos 0)) < 2 ^ 62
  pub entries : (i : ℕ) → i < w.rows → over_row w made i ≡ whole_at w i j

-- the numbers of the column of the entries, and no operation for it is too large
pub record IsMadeColumn (w : WholeCells) (entries made : List ℤ) : Type 0 where
  pub count : length made ≡ w.rows
  pub small : (i : ℕ) → unsigned_abs (get_or made i (pos 0)) < 2 ^ 62
  pub cells : (i : ℕ) → i < w.rows → IsCellOf w entries i (over_row w made i)

-- ---- rows that are copied
-- the first n numbers of row i were appended
pub record IsCopiedTo (w : WholeCells) (i : ℕ) (old : List ℤ) (n : ℕ) (new : List ℤ) : Type 0 where
  pub count : length new ≡ length old + n
  pub before : (k : ℕ) → k < length old → get_or new k (pos 0) ≡ get_or old k (pos 0)
  pub here : (j : ℕ) → j < n → get_or new (length old + j) (pos 0) ≡ number_at w i j

-- a whole row was appended
abbrev pub IsCopied : WholeCells → ℕ → List ℤ → List ℤ → Type 0
IsCopied w i old new = IsCopiedTo w i old w.width new
