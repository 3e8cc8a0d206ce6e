-- The places that are due at a table name its rows and columns.
use Rattle.std.proofs.Common.{ℕ, ◌<◌, ◌≤◌, ℤ, List, length, arith}
use Rattle.ps_meaning.specs.Rational.{Rational}
use Rattle.ps_simplex.specs.declared.phase.Phase.{Phase}
use Rattle.ps_simplex.specs.Rule.{SimplexTable}
use Rattle.ps_table.specs.declared.col.Col.{Col}
use Rattle.ps_table.specs.declared.col.Col.TheVariants as col
use Rattle.ps_table.specs.declared.place.Place.{Place}
use Rattle.ps_table.specs.declared.place.Place.TheVariants as place
use Rattle.ps_table.specs.declared.place.TableCol.{TableCol}
use Rattle.ps_table.specs.declared.place.TableCol.TheVariants as shown
use Rattle.ps_table.specs.Tableau.{IsInside, IsHome, IsShown}
use Rattle.ps_table.specs.declared.limits.TheConstants.{MOST_ROWS}
use Rattle.ps_answer.specs.declared.limits.TheConstants.{MOST_WORLD}
use Rattle.ps_table.specs.Places.{Operation, PivotPlace, at_scale, at_times, at_minus, CostPlace, at_cost}
use Rattle.ps_table.specs.Places.{PricePlace, at_price_times, at_price_plus, ColumnPlace, at_column_times, at_column_plus}
use Rattle.ps_table.specs.Places.{MultiplierPlace, at_whole, at_scaled, WeightPlace, at_weight, at_weighed, at_total}
use Rattle.ps_bland.specs.DuePlaces.{DuePlace, WorldColumns, of_slack, of_artificial, of_price, of_column, of_ratio, of_pivot}
use Rattle.ps_claims.specs.declared.claim_kind.ClaimKind.{ClaimKind}
use Rattle.ps_runs.specs.Rows.{rows_of}
use Rattle.ps_runs.specs.Subjects.{Subject, setting_of, program_of}
use Rattle.ps_runs.specs.Runs.{Stage, worlds_at}
use Rattle.ps_runs.specs.Licences.{DueAt, for_pivots, for_dual, for_model}
use Rattle.ps_answer.specs.Items.{IsWorldWithin, IsColWithin, IsShownWithin, IsPlaceWithin}

-- a world is one of so many, which are numbered from 1
abbrev pub IsWorldUnder : ℕ → ℕ → Type 0
IsWorldUnder most k = (0 < k) × (k ≤ most)

-- a place is over these rows and worlds
abbrev pub IsPlaceUnder : ℕ → ℕ → Place → Type 0
IsPlaceUnder rows most (place.Ratio i) = i < rows
IsPlaceUnder rows most (place.Scale j) = IsShown rows j
IsPlaceUnder rows most (place.Times i j) = (i < rows) × IsShown rows j
IsPlaceUnder rows most (place.Minus i j) = (i < rows) × IsShown rows j
IsPlaceUnder rows most (place.Cost j i) = IsHome rows j × (i < rows)
IsPlaceUnder rows most (place.Whole i) = i < rows
IsPlaceUnder rows most (place.Scaled i) = i < rows
IsPlaceUnder rows most (place.Weight i) = i < rows
IsPlaceUnder rows most (place.Weighed i) = i < rows
IsPlaceUnder rows most (place.Total i) = i < rows
IsPlaceUnder rows most (place.PriceTimes k m) = IsWorldUnder most k × (m < rows)
IsPlaceUnder rows most (place.PricePlus k m) = IsWorldUnder most k × (m < rows)
IsPlaceUnder rows most (place.ColumnTimes k i m) = IsWorldUnder most k × (i < rows) × (m < rows)
IsPlaceUnder rows most (place.ColumnPlus k i m) = IsWorldUnder most k × (i < rows) × (m < rows)

module _ (rows most : ℕ) where
  pivot_under : (X : ℕ → ℕ → Rational) (y : ℕ → Rational) (p : ℕ) (o : Operation) → PivotPlace rows X y p o → IsPlaceUnder rows most o.place
  pivot_under X y p _ (at_scale c h) = h
  pivot_under X y p _ (at_times i c h ne k) = (h, k)
  pivot_under X y p _ (at_minus i c h ne k) = (h, k)

  cost_under : (cost : ℕ → Rational) (basic : ℕ → ℕ) (X : ℕ → ℕ → Rational) (c : Col) (o : Operation) → IsHome rows c
      → CostPlace rows cost basic X c o → IsPlaceUnder rows most o.place
  cost_under cost basic X c _ h (at_cost i k) = (h, k)

  price_under : (multipliers : ℕ → Rational) (entries : List ℤ) (k : ℕ) (o : Operation) → IsWorldUnder most k
      → PricePlace rows multipliers entries k o → IsPlaceUnder rows most o.place
  price_under multipliers entries k _ h (at_price_times m l) = (h, l)
  price_under multipliers entries k _ h (at_price_plus m l) = (h, l)

  column_under : (X : ℕ → ℕ → Rational) (entries : List ℤ) (k i : ℕ) (o : Operation) → IsWorldUnder most k → i < rows
      → ColumnPlace rows X entries k i o → IsPlaceUnder rows most o.place
  column_under X entries k i _ h row (at_column_times m l) = (h, row, l)
  column_under X entries k i _ h row (at_column_plus m l) = (h, row, l)

  multiplier_under : (cost : ℕ → Rational) (basic : ℕ → ℕ) (X : ℕ → ℕ → Rational) (o : Operation)
      → MultiplierPlace rows cost basic X o → IsPlaceUnder rows most o.place
  multiplier_under cost basic X _ (at_whole i h) = h
  multiplier_under cost basic X _ (at_scaled i h) = h

  weight_under : (basic : ℕ → ℕ) (X : ℕ → ℕ → Rational) (o : Operation) → WeightPlace rows basic X o → IsPlaceUnder rows most o.place
  weight_under basic X _ (at_weight i h k) = h
  weight_under basic X _ (at_weighed i h k) = h
  weight_under basic X _ (at_total i h k) = h

module _ (phase : Phase) (t : SimplexTable) (worlds : WorldColumns) (left : ℕ) (cost : ℕ → Rational) where
  settle_under : (o : Operation) → DuePlace phase t worlds left cost o → IsPlaceUnder t.rows worlds.count o.place
  settle_under _ (of_slack m o unfinished low slack least h) = cost_under t.rows worlds.count cost t.basic t.entry (col.Home m) o low h
  settle_under _ (of_artificial m o unfinished low artificial least h) = cost_under t.rows worlds.count cost t.basic t.entry (col.Home m) o low h
  settle_under _ (of_price k o unfinished some many least h) = price_under t.rows worlds.count _ (worlds.entries k) k o (some, many) h
  settle_under _ (of_column k i o unfinished pivots some many enters row h) = column_under t.rows worlds.count t.entry (worlds.entries k) k i o (some, many) row h
  settle_under _ (of_ratio c i unfinished some inside enters decide rising) = rising.within
  settle_under _ (of_pivot c p o unfinished some inside enters leaves h) = pivot_under t.rows worlds.count t.entry _ p o h

-- a place that is due names the stage's rows and worlds
pub due_under : (kind : ClaimKind) (s : Subject) (g : Stage) (left : ℕ) (X : ℕ → ℕ → Rational) (o : Operation) → DueAt (program_of kind s) g left X o
    → IsPlaceUnder (rows_of (setting_of s)) (length g.pool) o.place
due_under kind s g left X _ (for_pivots o h) = settle_under _ _ (worlds_at (program_of kind s).frame g) left _ o h
due_under kind s g left X _ (for_dual o rests h) = multiplier_under (rows_of (setting_of s)) (length g.pool) _ g.basis X o h
due_under kind s g left X _ (for_model o due h) = weight_under (rows_of (setting_of s)) (length g.pool) g.basis X o h

-- ---- over more rows and worlds
home_more : (rows more : ℕ) (c : Col) → rows ≤ more → IsHome rows c → IsHome more c
home_more rows more (col.Home i) h l = omega (arith, h, l)
home_more rows more (col.World k) h l = absurd l

shown_more : (rows more : ℕ) (c : TableCol) → rows ≤ more → IsShown rows c → IsShown more c
shown_more rows more shown.Right h l = tt
shown_more rows more (shown.Of c) h l = home_more rows more c h l

world_more : (few most k : ℕ) → few ≤ most → IsWorldUnder few k → IsWorldUnder most k
world_more few most k h l = (l.0, let m = l.1 in omega (arith, h, m))

pub place_more : (rows more few most : ℕ) (at : Place) → rows ≤ more → few ≤ most → IsPlaceUnder rows few at → IsPlaceUnder more most at
place_more rows more few most (place.Ratio i) h k l = omega (arith, h, l)
place_more rows more few most (place.Scale j) h k l = shown_more rows more j h l
place_more rows more few most (place.Times i j) h k l = (omega (arith, h, l.0), shown_more rows more j h l.1)
place_more rows more few most (place.Minus i j) h k l = (omega (arith, h, l.0), shown_more rows more j h l.1)
place_more rows more few most (place.Cost j i) h k l = (home_more rows more j h l.0, omega (arith, h, l.1))
place_more rows more few most (place.Whole i) h k l = omega (arith, h, l)
place_more rows more few most (place.Scaled i) h k l = omega (arith, h, l)
place_more rows more few most (place.Weight i) h k l = omega (arith, h, l)
place_more rows more few most (place.Weighed i) h k l = omega (arith, h, l)
place_more rows more few most (place.Total i) h k l = omega (arith, h, l)
place_more rows more few most (place.PriceTimes n m) h k l = (world_more few most n k l.0, omega (arith, h, l.1))
place_more rows more few most (place.PricePlus n m) h k l = (world_more few most n k l.0, omega (arith, h, l.1))
place_more rows more few most (place.ColumnTimes n i m) h k l = (world_more few most n k l.0, omega (arith, h, l.1), omega (arith, h, l.2))
place_more rows more few most (place.ColumnPlus n i m) h k l = (world_more few most n k l.0, omega (arith, h, l.1), omega (arith, h, l.2))

-- ---- within the limits of a report
world_within : (most k : ℕ) → most ≤ MOST_WORLD → IsWorldUnder most k → IsWorldWithin k
world_within most k worlds h = (omega (arith, h.0), omega (arith, worlds, h.1))

pub col_within : (rows most : ℕ) (c : Col) → rows ≤ MOST_ROWS → most ≤ MOST_WORLD → IsInside rows most c → IsColWithin c
col_within rows most (col.Home i) few worlds h = omega (arith, few, h)
col_within rows most (col.World n) few worlds h = world_within most n worlds h

home_within : (rows : ℕ) (c : Col) → rows ≤ MOST_ROWS → IsHome rows c → IsColWithin c
home_within rows (col.Home i) few h = omega (arith, few, h)
home_within rows (col.World k) few h = absurd h

shown_within : (rows : ℕ) (c : TableCol) → rows ≤ MOST_ROWS → IsShown rows c → IsShownWithin c
shown_within rows shown.Right few h = tt
shown_within rows (shown.Of c) few h = home_within rows c few h

pub place_within : (rows most : ℕ) (at : Place) → rows ≤ MOST_ROWS → most ≤ MOST_WORLD → IsPlaceUnder rows most at → IsPlaceWithin at
place_within rows most (place.Ratio i) few worlds h = omega (arith, few, h)
place_within rows most (place.Scale j) few worlds h = shown_within rows j few h
place_within rows most (place.Times i j) few worlds h = (omega (arith, few, h.0), shown_within rows j few h.1)
place_within rows most (place.Minus i j) few worlds h = (omega (arith, few, h.0), shown_within rows j few h.1)
place_within rows most (place.Cost j i) few worlds h = (home_within rows j few h.0, omega (arith, few, h.1))
place_within rows most (place.Whole i) few worlds h = omega (arith, few, h)
place_within rows most (place.Scaled i) few worlds h = omega (arith, few, h)
place_within rows most (place.Weight i) few worlds h = omega (arith, few, h)
place_within rows most (place.Weighed i) few worlds h = omega (arith, few, h)
place_within rows most (place.Total i) few worlds h = omega (arith, few, h)
place_within rows most (place.PriceTimes n m) few worlds h = (world_within most n worlds h.0, omega (arith, few, h.1))
place_within rows most (place.PricePlus n m) few worlds h = (world_within most n worlds h.0, omega (arith, few, h.1))
place_within rows most (place.ColumnTimes n i m) few worlds h = (world_within most n worlds h.0, omega (arith, few, h.1), omega (arith, few, h.2))
place_within rows most (place.ColumnPlus n i m) few worlds h = (world_within most n worlds h.0, omega (arith, few, h.1), omega (arith, few, h.2))
