-- What the laws of lists of pivots say.
use Rattle.std.specs.Prelude.{◌≡◌, ◌≢◌, ℕ, suc, ◌+◌, ◌^◌, ◌<◌, ◌≤◌, Bool, List, length, All, AllPairs}
use Rattle.ps_meaning.specs.Rational.{Rational, mul, sub}
use Rattle.ps_meaning.specs.Sums.{sum_to}
use Rattle.ps_simplex.specs.Table.{IsBasisTable, IsBasis, Belongs}
use Rattle.ps_simplex.specs.declared.phase.Phase.{Phase}
use Rattle.ps_simplex.specs.Pivots.{linear_program, System, simplex_table, Pivot, Pivots}
use Rattle.ps_simplex.specs.Count.{choose}
use Rattle.ps_simplex.specs.Cycle.{gain, IsStart, NoBasisTwice}

-- of two tables of one system: what a column carries above its cost in Y is what it carries so in X, less the sum over
-- the rows of Y of what the basic columns of Y carry so in X, times the column's entries in Y
abbrev pub ReducedCostsCombine : Type 0
ReducedCostsCombine = (n w : ℕ) (A X Y : ℕ → ℕ → Rational) (cost : ℕ → Rational) (a b : ℕ → ℕ) (j : ℕ)
    → IsBasisTable n w A a X → IsBasis n w b → Belongs n w A b Y → j < w
    → gain n cost b Y j ≡ sub (gain n cost a X j) (sum_to n (λ i. mul (gain n cost a X (b i)) (Y i j)))

-- lawful pivots from a table at which a phase may start meet no basis twice
abbrev pub PivotsMeetNoBasisTwice : Type 0
PivotsMeetNoBasisTwice = (phase : Phase) (s : System) (cost : ℕ → Rational) (w : ℕ) (a : ℕ → ℕ) (X : ℕ → ℕ → Rational)
    (pivots : List Pivot)
    → s.rows < w → IsBasis s.rows w a → IsBasisTable s.rows w s.columns a X → IsStart phase (simplex_table s w a X)
    → NoBasisTwice phase s cost w a pivots

-- lawful pivots from such a table of m columns beside the right side are fewer than the ways to choose a basis
abbrev pub PivotsAreFew : Type 0
PivotsAreFew = (phase : Phase) (s : System) (cost : ℕ → Rational) (m : ℕ) (a b : ℕ → ℕ) (X : ℕ → ℕ → Rational)
    (pivots : List Pivot)
    → s.rows < suc m → IsBasis s.rows (suc m) a → ((i : ℕ) → i < s.rows → 0 < a i) → IsBasisTable s.rows (suc m) s.columns a X
    → IsStart phase (simplex_table s (suc m) a X) → Pivots (linear_program phase s cost (suc m)) a pivots b
    → length pivots < choose m s.rows

-- different worlds of a atoms are 2 ^ a at most
abbrev pub WorldsAreFew : Type 0
WorldsAreFew = (a : ℕ) (pool : List (List Bool)) → AllPairs (λ u v. u ≢ v) pool → All (λ w. length w ≡ a) pool
    → length pool ≤ 2 ^ a

-- there are no fewer ways to choose of more things, and those of one thing more are with that thing or without it
pub record WaysGrow : Type 0 where
  pub next : (n k : ℕ) → choose (suc n) (suc k) ≡ choose n k + choose n (suc k)
  pub more : (n m k : ℕ) → n ≤ m → choose n k ≤ choose m k
