-- What the laws of the table of a basis say.
use Rattle.std.specs.Prelude.{◌≡◌, ℕ, suc, ◌<◌}
use Rattle.ps_meaning.specs.Rational.{Rational, mul}
use Rattle.ps_meaning.specs.Sums.{sum_to}
use Rattle.ps_simplex.specs.Table.{Belongs, IsBasisTable, HasHomes, Pivoted, Based, CanPivot, IsFirst, Widened, carried_by}
use Rattle.ps_simplex.specs.Table.{IsBasis, AreSameWithin, HaveSameCosts, AreSameBases, Solves}

-- the identity on the homes is the table of the homes
abbrev pub HomesHaveATable : Type 0
HomesHaveATable = (n : ℕ) (A X : ℕ → ℕ → Rational) (basic : ℕ → ℕ) → 0 < n → HasHomes n A → IsFirst n basic X
    → IsBasisTable n (suc n) A basic X

-- after a pivot the table is that of the new basis
abbrev pub PivotsKeepTables : Type 0
PivotsKeepTables = (n w p q : ℕ) (A X Y : ℕ → ℕ → Rational) (old new : ℕ → ℕ) → CanPivot n w p q old X → Pivoted n w p q X Y
    → Based n p q old new → IsBasisTable n w A old X → IsBasisTable n w A new Y

-- with one more column it is that of the same basis
abbrev pub NewColumnsKeepTables : Type 0
NewColumnsKeepTables = (n w : ℕ) (A X Z : ℕ → ℕ → Rational) (basic : ℕ → ℕ) → n < w → IsBasis n w basic → Widened n w A X Z
    → IsBasisTable n w A basic X → IsBasisTable n (suc w) A basic Z

-- a table that belongs to the basis has the entries of the one that stands for it
abbrev pub BasesHaveOneTable : Type 0
BasesHaveOneTable = (n w : ℕ) (A X Y : ℕ → ℕ → Rational) (basic : ℕ → ℕ) → n < w → IsBasis n w basic → IsBasisTable n w A basic X
    → Belongs n w A basic Y → (i j : ℕ) → i < n → j < w → X i j ≡ Y i j

-- the values of the basic columns are the only ones that add up to the right side
abbrev pub BasesHaveOneSolution : Type 0
BasesHaveOneSolution = (n w : ℕ) (A X : ℕ → ℕ → Rational) (basic : ℕ → ℕ) (values : ℕ → Rational) → n < w → IsBasis n w basic
    → IsBasisTable n w A basic X → Solves n A basic values → (i : ℕ) → i < n → values i ≡ X i 0

-- rows and columns beyond those of the table don't matter, nor do costs
pub record OnlyTheTableMatters : Type 0 where
  pub belongs : (n w : ℕ) (A B X Y : ℕ → ℕ → Rational) (basic : ℕ → ℕ) → IsBasis n w basic → AreSameWithin n w A B
      → AreSameWithin n w X Y → Belongs n w A basic X → Belongs n w B basic Y
  pub stands : (n w : ℕ) (A B X Y : ℕ → ℕ → Rational) (basic : ℕ → ℕ) → n < w → IsBasis n w basic → AreSameWithin n w A B
      → AreSameWithin n w X Y → IsBasisTable n w A basic X → IsBasisTable n w B basic Y
  pub basics : (n w : ℕ) (A X : ℕ → ℕ → Rational) (old new : ℕ → ℕ) → AreSameBases n old new
      → IsBasisTable n w A old X → IsBasisTable n w A new X
  pub costs : (n w : ℕ) (X Y : ℕ → ℕ → Rational) (basic : ℕ → ℕ) (cost other : ℕ → Rational) (j : ℕ) → IsBasis n w basic
      → AreSameWithin n w X Y → HaveSameCosts w cost other → j < w
      → carried_by n cost basic X j ≡ carried_by n other basic Y j

-- the right side is the column of the first home, so what is carried of it is that home's multiplier; and what is carried
-- of a column is its price by the multipliers
pub record MultipliersPriceColumns : Type 0 where
  pub right_side : (n w : ℕ) (A X : ℕ → ℕ → Rational) (basic : ℕ → ℕ) → 0 < n → n < w → IsBasisTable n w A basic X
      → (i : ℕ) → i < n → X i 0 ≡ X i 1
  pub value : (n w : ℕ) (A X : ℕ → ℕ → Rational) (basic : ℕ → ℕ) (cost : ℕ → Rational) → 0 < n → n < w
      → IsBasisTable n w A basic X
      → carried_by n cost basic X 0 ≡ carried_by n cost basic X 1
  pub columns : (n w : ℕ) (A X : ℕ → ℕ → Rational) (basic : ℕ → ℕ) (cost : ℕ → Rational) → IsBasisTable n w A basic X
      → (j : ℕ) → j < w → carried_by n cost basic X j ≡ sum_to n (λ m. mul (carried_by n cost basic X (suc m)) (A m j))
