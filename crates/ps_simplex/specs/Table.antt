-- The table of a basis, as a function of row and column. Column 0 is the right side, columns 1 to n are the homes of
-- the n rows, and the columns of worlds follow.
use Rattle.std.specs.Prelude.{◌≡◌, ◌≢◌, ℕ, suc, ◌-◌, ◌<◌, ◌≤◌, cond}
use Rattle.std.proofs.Common.{eqb}
use Rattle.ps_meaning.specs.Rational.{Rational, mul, sub, div, zero_q, one_q}
use Rattle.ps_meaning.specs.Sums.{sum_to}

-- a pivot in row p and column q makes Y of X, of n rows and w columns
pub record Pivoted (n w p q : ℕ) (X Y : ℕ → ℕ → Rational) : Type 0 where
  pub row : (j : ℕ) → j < w → Y p j ≡ div (X p j) (X p q)
  pub others : (i j : ℕ) → i < n → j < w → i ≢ p → Y i j ≡ sub (X i j) (mul (X i q) (Y p j))

-- after a pivot in row p and column q the basis has column q in row p, and in each other row the column that it had
pub record Based (n p q : ℕ) (old new : ℕ → ℕ) : Type 0 where
  pub here : new p ≡ q
  pub others : (i : ℕ) → i < n → i ≢ p → new i ≡ old i

-- 1 where the numbers are the same, else 0
abbrev pub unit_at : ℕ → ℕ → Rational
unit_at i j = cond (eqb i j) one_q zero_q

-- columns A begin with the right side, which is 1 in row 0, and the homes, which are 1 in their rows
abbrev pub HasHomes : ℕ → (ℕ → ℕ → Rational) → Type 0
HasHomes n A = (m j : ℕ) → m < n → j ≤ n → A m j ≡ unit_at m (j - 1)

-- the table X of n rows and w columns belongs to the basis
abbrev pub Belongs : ℕ → ℕ → (ℕ → ℕ → Rational) → (ℕ → ℕ) → (ℕ → ℕ → Rational) → Type 0
Belongs n w A basic X = (m j : ℕ) → m < n → j < w → sum_to n (λ i. mul (X i j) (A m (basic i))) ≡ A m j

-- the table X of n rows and w columns is that of the basis: column 0 is the right side, columns 1 to n are the homes
pub record IsBasisTable (n w : ℕ) (A : ℕ → ℕ → Rational) (basic : ℕ → ℕ) (X : ℕ → ℕ → Rational) : Type 0 where
  pub homes : HasHomes n A
  pub belongs : Belongs n w A basic X
  pub rows : (i j : ℕ) → i < n → j < w → X i j ≡ sum_to n (λ m. mul (X i (suc m)) (A m j))
  pub here : (i : ℕ) → i < n → X i (basic i) ≡ one_q
  pub apart : (i k : ℕ) → i < n → k < n → k ≢ i → X i (basic k) ≡ zero_q

-- what the rows carry of column j, by the costs of the basic columns
abbrev pub carried_by : ℕ → (ℕ → Rational) → (ℕ → ℕ) → (ℕ → ℕ → Rational) → ℕ → Rational
carried_by n cost basic X j = sum_to n (λ i. mul (cost (basic i)) (X i j))

-- each of n rows has its basic column among w columns
abbrev pub IsBasis : ℕ → ℕ → (ℕ → ℕ) → Type 0
IsBasis n w basic = (i : ℕ) → i < n → basic i < w

-- what a pivot needs: a row, a column, and an entry other than 0 there, in a table whose basic columns it has
pub record CanPivot (n w p q : ℕ) (basic : ℕ → ℕ) (X : ℕ → ℕ → Rational) : Type 0 where
  pub homes : n < w
  pub basics : IsBasis n w basic
  pub row : p < n
  pub column : q < w
  pub entry : X p q ≢ zero_q

-- the first table, the identity on the homes
pub record IsFirst (n : ℕ) (basic : ℕ → ℕ) (X : ℕ → ℕ → Rational) : Type 0 where
  pub entries : (i j : ℕ) → i < n → j ≤ n → X i j ≡ unit_at i (j - 1)
  pub basics : (i : ℕ) → i < n → basic i ≡ suc i

-- Z is X with one more column: the world's entries, combined by the home columns
pub record Widened (n w : ℕ) (A X Z : ℕ → ℕ → Rational) : Type 0 where
  pub same : (i j : ℕ) → i < n → j < w → Z i j ≡ X i j
  pub made : (i : ℕ) → i < n → Z i w ≡ sum_to n (λ m. mul (X i (suc m)) (A m w))

-- two tables have the same entries in n rows and w columns
pub record AreSameWithin (n w : ℕ) (X Y : ℕ → ℕ → Rational) : Type 0 where
  pub same : (i j : ℕ) → i < n → j < w → X i j ≡ Y i j

-- the same costs of w columns
pub record HaveSameCosts (w : ℕ) (cost other : ℕ → Rational) : Type 0 where
  pub same : (j : ℕ) → j < w → cost j ≡ other j

-- the same basic columns in n rows
pub record AreSameBases (n : ℕ) (old new : ℕ → ℕ) : Type 0 where
  pub same : (i : ℕ) → i < n → old i ≡ new i

-- values of the basic columns that add up to the right side
pub record Solves (n : ℕ) (A : ℕ → ℕ → Rational) (basic : ℕ → ℕ) (values : ℕ → Rational) : Type 0 where
  pub rows : (m : ℕ) → m < n → sum_to n (λ i. mul (values i) (A m (basic i))) ≡ A m 0
