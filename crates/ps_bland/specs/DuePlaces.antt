-- The places that are due at a table, over its basis, its entries and those of its worlds.
use Rattle.std.specs.Prelude.{◌≡◌, ◌↔◌, ℕ, suc, ◌+◌, ◌<◌, ◌≤◌, true, false, List, ℤ}
use Rattle.ps_frac.specs.declared.wide.Op.TheVariants.{Div}
use Rattle.ps_meaning.specs.Rational.{Rational}
use Rattle.ps_simplex.specs.Table.{carried_by}
use Rattle.ps_simplex.specs.Rule.{SimplexTable, Improves, IsDueToEnd, Enters, IsRising, Leaves}
use Rattle.ps_table.specs.declared.col.Col.{Col}
use Rattle.ps_table.specs.declared.col.Col.TheVariants as col
use Rattle.ps_table.specs.declared.costs.Costs.{Costs}
use Rattle.ps_table.specs.declared.place.Place.TheVariants.{Ratio}
use Rattle.ps_table.specs.declared.place.WideAt.{WideAt}
use Rattle.ps_table.specs.Tableau.{Tableau, number_in, IsInside, entries_of}
use Rattle.ps_table.specs.Pricing.{cost_at}
use Rattle.ps_table.specs.Places.{Operation, CostPlace, PricePlace, ColumnPlace, PivotPlace, IsWideAt}
use Rattle.ps_simplex.specs.declared.phase.Phase.{Phase}
use Rattle.ps_bland.specs.Rules.{simplex_of}
use Rattle.ps_bland.specs.Ends.{RatiosDecide, IsDueWide}

-- the columns of worlds: how many there are, and the entries of each by its number from 1
pub record WorldColumns : Type 0 where
  pub count : ℕ
  pub entries : ℕ → List ℤ

-- those of a solver's table
abbrev pub worlds_in : Tableau → WorldColumns
worlds_in t = record { count = t.worlds; entries = entries_of t }

-- an operation is due at its place: of what is carried of a slack, where no slack before it improves, and of an artificial,
-- where no slack improves; of the price of a world, where no column before it improves; and, while a pivot is left, of the
-- column of the world that enters, of the ratios of the column that enters, where they decide, and of the pivot by the rule
pub data DuePlace (phase : Phase) (t : SimplexTable) (worlds : WorldColumns) (left : ℕ) (cost : ℕ → Rational)
    : Operation → Type 0 where
  of_slack : (m : ℕ) (o : Operation) → (IsDueToEnd phase t → ⊥) → m < t.rows → t.artificial (suc m) ≡ false
      → ((j : ℕ) → j < suc m → Improves t cost j → ⊥)
      → CostPlace t.rows cost t.basic t.entry (col.Home m) o → DuePlace phase t worlds left cost o
  of_artificial : (m : ℕ) (o : Operation) → (IsDueToEnd phase t → ⊥) → m < t.rows → t.artificial (suc m) ≡ true
      → ((j : ℕ) → j < suc t.rows → Improves t cost j → ⊥)
      → CostPlace t.rows cost t.basic t.entry (col.Home m) o → DuePlace phase t worlds left cost o
  of_price : (k : ℕ) (o : Operation) → (IsDueToEnd phase t → ⊥) → 0 < k → k ≤ worlds.count
      → ((j : ℕ) → j < t.rows + k → Improves t cost j → ⊥)
      → PricePlace t.rows (λ m. carried_by t.rows cost t.basic t.entry (suc m)) (worlds.entries k) k o
      → DuePlace phase t worlds left cost o
  of_column : (k i : ℕ) (o : Operation) → (IsDueToEnd phase t → ⊥) → 0 < left → 0 < k → k ≤ worlds.count
      → Enters t cost (t.rows + k) → i < t.rows
      → ColumnPlace t.rows t.entry (worlds.entries k) k i o → DuePlace phase t worlds left cost o
  of_ratio : (c : Col) (i : ℕ) → (IsDueToEnd phase t → ⊥) → 0 < left → IsInside t.rows worlds.count c
      → Enters t cost (number_in t.rows c) → RatiosDecide phase t (number_in t.rows c) → IsRising t (number_in t.rows c) i
      → DuePlace phase t worlds left cost
      (record { place = Ratio i; op = Div; left = t.entry i 0; right = t.entry i (number_in t.rows c) })
  of_pivot : (c : Col) (p : ℕ) (o : Operation) → (IsDueToEnd phase t → ⊥) → 0 < left
      → IsInside t.rows worlds.count c → Enters t cost (number_in t.rows c) → Leaves phase t (number_in t.rows c) p
      → PivotPlace t.rows t.entry (λ i. t.entry i (number_in t.rows c)) p o → DuePlace phase t worlds left cost o

-- the due places of a solver's table are those of its basis, its entries and those of its worlds
abbrev pub DuePlacesAreOfTheTable : Type 0
DuePlacesAreOfTheTable = (phase : Phase) (costs : Costs) (t : Tableau) (left : ℕ) (w : WideAt)
    → IsDueWide phase costs t left w ↔ IsWideAt (DuePlace phase (simplex_of t) (worlds_in t) left (cost_at costs)) w
