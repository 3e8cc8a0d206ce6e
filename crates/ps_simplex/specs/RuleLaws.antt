-- What the laws of Bland's rule say.
use Rattle.std.specs.Prelude.{◌≡◌, ◌⊎◌, ℕ, suc, ◌<◌, ℤ, pos, ◌<ℤ◌, ◌+ℤ◌, ◌*ℤ◌, neg_ℤ, Bool, false, List, ◌++◌}
use Rattle.ps_meaning.specs.Rational.{Rational, whole, mul, neg, sub, zero_q, one_q}
use Rattle.ps_meaning.specs.Order.{IsNonneg, AtMost, IsLess}
use Rattle.ps_meaning.specs.Sums.{sum_to, int_sum_to}
use Rattle.ps_simplex.specs.Table.{IsBasisTable, IsBasis, AreSameWithin, HaveSameCosts}
use Rattle.ps_simplex.specs.declared.phase.Phase.{Phase}
use Rattle.ps_simplex.specs.Rule.{SimplexTable, table_of, carried, Improves, IsDueToEnd, IsMoving, IsResting, Enters, Leaves}
use Rattle.ps_simplex.specs.Pivots.{System, system_of, simplex_table, LinearProgram, linear_program, IsLawfulAt, Pivot, Pivots}

-- two pivots by the rule at a basis whose table is kept by pivots are the same
abbrev pub RuleNamesOnePivot : Type 0
RuleNamesOnePivot = (l : LinearProgram) (basic : ℕ → ℕ) (X : ℕ → ℕ → Rational) (q p k r : ℕ)
    → l.system.rows < l.width → IsBasis l.system.rows l.width basic
    → IsBasisTable l.system.rows l.width l.system.columns basic X
    → IsLawfulAt l basic q p → IsLawfulAt l basic k r → (q ≡ k) × (p ≡ r)

-- none of the first n numbers is below 0
abbrev pub AreNonneg : ℕ → (ℕ → Rational) → Type 0
AreNonneg n x = (i : ℕ) → i < n → IsNonneg (x i)

-- none of the first n numbers is above 0
abbrev pub AreNotAbove : ℕ → (ℕ → Rational) → Type 0
AreNotAbove n x = (i : ℕ) → i < n → IsNonneg (neg (x i))

-- a column costs 0, or -1 where its entry in some row is 1
abbrev pub CostsOfUnit : Rational → Rational → Type 0
CostsOfUnit cost entry = (cost ≡ zero_q) ⊎ ((cost ≡ neg one_q) × (entry ≡ one_q))

-- a column x without an entry above 0 carries no more than its cost: where no cost is below 0; and where a row a has no
-- entry below 0, each column costs 0, or -1 with entry 1 there, and the row is what the basic columns combine to
pub record RaysDontImprove : Type 0 where
  pub costs : (n : ℕ) (c x : ℕ → Rational) (cost : Rational) → AreNonneg n c → AreNotAbove n x → IsNonneg cost
      → IsLess cost (sum_to n (λ i. mul (c i) (x i))) → ⊥
  pub row : (n : ℕ) (a c x : ℕ → Rational) (entry cost : Rational) → AreNonneg n a
      → ((i : ℕ) → i < n → CostsOfUnit (c i) (a i)) → IsNonneg entry → CostsOfUnit cost entry
      → sum_to n (λ i. mul (x i) (a i)) ≡ entry → AreNotAbove n x
      → IsLess cost (sum_to n (λ i. mul (c i) (x i))) → ⊥

-- a whole number is this multiple of what a column of n entries carries by the multipliers, above its cost
abbrev pub IsCombination : ℕ → ℕ → (ℕ → Rational) → (ℕ → Rational) → Rational → ℤ → Type 0
IsCombination big n multiplier entry cost z =
    whole z ≡ mul (whole (pos big)) (sub (sum_to n (λ m. mul (multiplier m) (entry m))) cost)

-- the multipliers of the rows of a table: what is carried of the homes
abbrev pub multipliers : SimplexTable → (ℕ → Rational) → ℕ → Rational
multipliers t cost m = carried t cost (suc m)

-- combinations of a column's whole entries
pub record CombinationsPrice : Type 0 where
  -- by whole multiples of the multipliers, less the same multiple of the cost: the multiple of what is carried above the cost
  pub value : (n big : ℕ) (P a : ℕ → ℤ) (c : ℤ) (multiplier : ℕ → Rational) (sum : Rational)
      → ((m : ℕ) → m < n → whole (P m) ≡ mul (whole (pos big)) (multiplier m))
      → sum ≡ sum_to n (λ m. mul (multiplier m) (whole (a m)))
      → whole (int_sum_to n (λ m. P m *ℤ a m) +ℤ (neg_ℤ (pos big) *ℤ c)) ≡ mul (whole (pos big)) (sub sum (whole c))
  -- above 0 only where the column improves
  pub improves : (s : System) (w : ℕ) (basic : ℕ → ℕ) (X : ℕ → ℕ → Rational) (cost : ℕ → Rational) (j big : ℕ) (z : ℤ)
      → IsBasisTable s.rows w s.columns basic X → 0 < j → j < w → s.artificial j ≡ false
      → IsCombination big s.rows (multipliers (simplex_table s w basic X) cost) (λ m. s.columns m j) (cost j) z → pos 0 <ℤ z
      → Improves (simplex_table s w basic X) cost j
  -- and above 0 where it carries more than its cost
  pub back : (big : ℕ) (z : ℤ) (sum cost : Rational) → 0 < big → whole z ≡ mul (whole (pos big)) (sub sum cost)
      → IsLess cost sum → pos 0 <ℤ z
  -- at rest no column carries more than its cost
  pub rest : (phase : Phase) (t : SimplexTable) (cost : ℕ → Rational) (j : ℕ) → IsResting phase t cost → 0 < j → j < t.width
      → t.artificial j ≡ false → AtMost (carried t cost j) (cost j)

-- pivots after pivots are pivots
abbrev pub PivotsCompose : Type 0
PivotsCompose = (l : LinearProgram) (a b c : ℕ → ℕ) (before after : List Pivot)
    → Pivots l a before b → Pivots l b after c → Pivots l a (before ++ after) c

-- the same artificials among w columns
pub record HaveSameArtificials (w : ℕ) (a b : ℕ → Bool) : Type 0 where
  pub same : (j : ℕ) → j < w → a j ≡ b j

-- columns of a table: which are artificial, what they cost, and their entries
pub record PricedColumns : Type 0 where
  pub artificial : ℕ → Bool
  pub cost : ℕ → Rational
  pub entry : ℕ → ℕ → Rational

-- the columns with these artificials, costs and entries
abbrev pub priced_columns : (ℕ → Bool) → (ℕ → Rational) → (ℕ → ℕ → Rational) → PricedColumns
priced_columns artificial cost X = record { artificial = artificial; cost = cost; entry = X }

-- the table of n rows and w columns with this basis
abbrev pub table_with : ℕ → ℕ → (ℕ → ℕ) → PricedColumns → SimplexTable
table_with n w basic a = table_of n w basic a.artificial a.entry

-- a table with the same basis, and with the same artificials, costs and entries in n rows and w columns
pub record AreAlike (n w : ℕ) (basic : ℕ → ℕ) (a b : PricedColumns) : Type 0 where
  pub some : 0 < w
  pub basis : IsBasis n w basic
  pub artificials : HaveSameArtificials w a.artificial b.artificial
  pub costs : HaveSameCosts w a.cost b.cost
  pub entries : AreSameWithin n w a.entry b.entry

-- what the rule says of one table it says of each that is alike
pub record RuleReadsTheTable : Type 0 where
  pub due : (n w : ℕ) (basic : ℕ → ℕ) (a b : PricedColumns) (phase : Phase) → AreAlike n w basic a b
      → IsDueToEnd phase (table_with n w basic a) → IsDueToEnd phase (table_with n w basic b)
  pub improves : (n w : ℕ) (basic : ℕ → ℕ) (a b : PricedColumns) (j : ℕ) → AreAlike n w basic a b
      → Improves (table_with n w basic a) a.cost j → Improves (table_with n w basic b) b.cost j
  pub enters : (n w : ℕ) (basic : ℕ → ℕ) (a b : PricedColumns) (q : ℕ) → AreAlike n w basic a b
      → Enters (table_with n w basic a) a.cost q → Enters (table_with n w basic b) b.cost q
  pub leaves : (n w : ℕ) (basic : ℕ → ℕ) (a b : PricedColumns) (phase : Phase) (q p : ℕ) → AreAlike n w basic a b → q < w
      → Leaves phase (table_with n w basic a) q p → Leaves phase (table_with n w basic b) q p
  pub moving : (n w : ℕ) (basic : ℕ → ℕ) (a b : PricedColumns) (phase : Phase) → AreAlike n w basic a b
      → IsMoving phase (table_with n w basic a) a.cost → IsMoving phase (table_with n w basic b) b.cost
  pub resting : (n w : ℕ) (basic : ℕ → ℕ) (a b : PricedColumns) (phase : Phase) → AreAlike n w basic a b
      → IsResting phase (table_with n w basic a) a.cost → IsResting phase (table_with n w basic b) b.cost

-- columns, artificials and costs past the width don't matter to lawful pivots, which lead to a basis within the width
abbrev pub PivotsReadTheWidth : Type 0
PivotsReadTheWidth = (phase : Phase) (n w : ℕ) (a b : ℕ → Bool) (A B : ℕ → ℕ → Rational) (cost other : ℕ → Rational)
    (x y : ℕ → ℕ) (pivots : List Pivot)
    → 0 < w → IsBasis n w x → HaveSameArtificials w a b → HaveSameCosts w cost other → AreSameWithin n w A B
    → Pivots (linear_program phase (system_of n a A) cost w) x pivots y
    → Pivots (linear_program phase (system_of n b B) other w) x pivots y × IsBasis n w y
