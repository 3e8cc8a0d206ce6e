-- Bland's rule in the two phases of the simplex method: which column enters and which row leaves, by the least numbers.
use Rattle.std.specs.Prelude.{◌≡◌, ◌≢◌, ◌⊎◌, ℕ, ◌<◌, ◌≤◌, Bool, true, false}
use Rattle.ps_meaning.specs.Rational.{Rational, div, zero_q}
use Rattle.ps_meaning.specs.Order.{AtMost, IsLess, IsAbove}
use Rattle.ps_simplex.specs.Table.{carried_by}
use Rattle.ps_simplex.specs.declared.phase.Phase.{Phase}
use Rattle.ps_simplex.specs.declared.phase.Phase.TheVariants.{One, Lower, Upper}

-- a table as the rule sees it: column 0 is the right side, the others stand in their order
pub record SimplexTable : Type 0 where
  pub rows : ℕ
  pub width : ℕ
  pub entry : ℕ → ℕ → Rational
  pub basic : ℕ → ℕ
  pub artificial : ℕ → Bool

-- the table of n rows and w columns with this basis, these artificials and these entries
abbrev pub table_of : ℕ → ℕ → (ℕ → ℕ) → (ℕ → Bool) → (ℕ → ℕ → Rational) → SimplexTable
table_of n w basic a X = record { rows = n; width = w; entry = X; basic = basic; artificial = a }

-- the sum of the basic columns' costs times the entries of column j
abbrev pub carried : SimplexTable → (ℕ → Rational) → ℕ → Rational
carried f cost j = carried_by f.rows cost f.basic f.entry j

-- a slack or a world whose carried cost is greater than its cost; an artificial never improves
pub record Improves (f : SimplexTable) (cost : ℕ → Rational) (j : ℕ) : Type 0 where
  pub column : 0 < j
  pub within : j < f.width
  pub real : f.artificial j ≡ false
  pub more : IsLess (cost j) (carried f cost j)

-- each basic artificial has value 0
pub record IsFeasible (f : SimplexTable) : Type 0 where
  pub zero : (i : ℕ) → i < f.rows → f.artificial (f.basic i) ≡ true → f.entry i 0 ≡ zero_q

-- phase one is due to end at a feasible table, phase two never is
abbrev pub IsDueToEnd : Phase → SimplexTable → Type 0
IsDueToEnd One f = IsFeasible f
IsDueToEnd Lower f = ⊥
IsDueToEnd Upper f = ⊥

-- not due to end, and a column improves
pub record IsMoving (phase : Phase) (f : SimplexTable) (cost : ℕ → Rational) : Type 0 where
  pub unfinished : IsDueToEnd phase f → ⊥
  pub column : ℕ
  pub improves : Improves f cost column

-- not due to end, and no column improves
pub record IsResting (phase : Phase) (f : SimplexTable) (cost : ℕ → Rational) : Type 0 where
  pub unfinished : IsDueToEnd phase f → ⊥
  pub none : (j : ℕ) → Improves f cost j → ⊥

-- the improving column of least number
pub record Enters (f : SimplexTable) (cost : ℕ → Rational) (q : ℕ) : Type 0 where
  pub improves : Improves f cost q
  pub least : (j : ℕ) → j < q → Improves f cost j → ⊥

-- a row with an artificial basic column and an entry other than 0 in column q
pub record IsArtificialRow (f : SimplexTable) (q i : ℕ) : Type 0 where
  pub within : i < f.rows
  pub artificial : f.artificial (f.basic i) ≡ true
  pub entry : f.entry i q ≢ zero_q

-- there is no artificial row
abbrev pub HasNoArtificialRow : SimplexTable → ℕ → Type 0
HasNoArtificialRow f q = (i : ℕ) → IsArtificialRow f q i → ⊥

-- the artificial row of least number
pub record IsLeastArtificialRow (f : SimplexTable) (q p : ℕ) : Type 0 where
  pub row : IsArtificialRow f q p
  pub least : (i : ℕ) → i < p → IsArtificialRow f q i → ⊥

-- a row with an entry above 0
pub record IsRising (f : SimplexTable) (q i : ℕ) : Type 0 where
  pub within : i < f.rows
  pub above : IsAbove (f.entry i q)

-- value over entry
abbrev pub ratio : SimplexTable → ℕ → ℕ → Rational
ratio f q i = div (f.entry i 0) (f.entry i q)

-- a row of ratio r and basic column b goes before one of ratio s and basic column c: by a lesser ratio, or by the same one
-- and a lesser basic column
pub record GoesBefore (r : Rational) (b : ℕ) (s : Rational) (c : ℕ) : Type 0 where
  pub at_most : AtMost r s
  pub tie : r ≡ s → b ≤ c

-- row p goes before row i in column q
abbrev pub Precedes : SimplexTable → ℕ → ℕ → ℕ → Type 0
Precedes f q p i = GoesBefore (ratio f q p) (f.basic p) (ratio f q i) (f.basic i)

-- of the rows with an entry above 0, one that goes before each other
pub record HasLeastRatio (f : SimplexTable) (q p : ℕ) : Type 0 where
  pub rising : IsRising f q p
  pub least : (i : ℕ) → IsRising f q i → Precedes f q p i

-- in phase two the least artificial row leaves, where there is one, else a row of least ratio
abbrev pub LeavesInPhaseTwo : SimplexTable → ℕ → ℕ → Type 0
LeavesInPhaseTwo f q p = IsLeastArtificialRow f q p ⊎ (HasNoArtificialRow f q × HasLeastRatio f q p)

-- the leaving row: in phase one a row of least ratio, on both sides the one of phase two
abbrev pub Leaves : Phase → SimplexTable → ℕ → ℕ → Type 0
Leaves One f q p = HasLeastRatio f q p
Leaves Lower f q p = LeavesInPhaseTwo f q p
Leaves Upper f q p = LeavesInPhaseTwo f q p
