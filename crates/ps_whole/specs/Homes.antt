-- The first rows, in which each home is 1 in its own.
use Rattle.std.specs.Prelude.{◌≡◌, ℕ, suc, ◌-◌, ◌/◌, ◌%◌, ◌<◌, ◌≤◌, ◌^◌, List, get_or, length, ℤ, pos, unsigned_abs, cond}
use Rattle.std.proofs.Common.{eqb}
use Rattle.ps_whole.specs.Whole.{WholeCells, number_at, under_at}

-- the number of row i in column j: the right side is that of the first home
abbrev pub home_at : ℕ → ℕ → ℤ
home_at i j = cond (eqb i (j - 1)) (pos 1) (pos 0)

-- the first n numbers of the rows
pub record AreHomesTo (rows n : ℕ) (numbers : List ℤ) : Type 0 where
  pub count : length numbers ≡ n
  pub small : (k : ℕ) → unsigned_abs (get_or numbers k (pos 0)) < 2 ^ 62
  pub here : (k : ℕ) → k < n → get_or numbers k (pos 0) ≡ home_at (k / suc rows) (k % suc rows)

-- the first n denominators, all of them 1
pub record AreOnesTo (n : ℕ) (unders : List ℕ) : Type 0 where
  pub count : length unders ≡ n
  pub ones : (k : ℕ) → get_or unders k 1 ≡ 1

-- the right side and the homes
pub record IsOfHomes (rows : ℕ) (w : WholeCells) : Type 0 where
  pub rows_are : w.rows ≡ rows
  pub width_is : w.width ≡ suc rows
  pub numbers : (i j : ℕ) → i < rows → j ≤ rows → number_at w i j ≡ home_at i j
  pub unders : (i : ℕ) → under_at w i ≡ 1
