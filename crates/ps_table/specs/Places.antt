-- The operations that can be refused, each at its place, over a basis and the entries of its table.
use Rattle.std.specs.Prelude.{◌≢◌, ℕ, suc, ◌<◌, List, ℤ, pos, unsigned_abs, if◌then◌else◌}
use Rattle.std.proofs.Common.{ltb}
use Rattle.ps_frac.specs.declared.wide.Op.{Op}
use Rattle.ps_frac.specs.declared.wide.Op.TheVariants.{Add, Sub, Mul, Div, Lcm}
use Rattle.ps_meaning.specs.Gcd.{lcm, lcm_to}
use Rattle.ps_meaning.specs.Wide.{ProductIsWide, SumIsWide}
use Rattle.ps_meaning.specs.Order.{IsAbove}
use Rattle.ps_meaning.specs.Rational.{Rational, whole, add, mul, neg, div, inverse}
use Rattle.ps_meaning.specs.Scaled.{scaled}
use Rattle.ps_meaning.specs.Sums.{sum_to, int_sum_to}
use Rattle.ps_simplex.specs.Table.{carried_by}
use Rattle.ps_meaning.specs.declared.limits.TheConstants.{PRINTED_LIMIT}
use Rattle.ps_table.specs.declared.place.Place.{Place}
use Rattle.ps_table.specs.declared.place.Place.TheVariants.{Ratio, Scale, Times, Minus, Cost, Whole}
use Rattle.ps_table.specs.declared.place.Place.TheVariants.{Scaled, Weight, Weighed, Total}
use Rattle.ps_table.specs.declared.place.Place.TheVariants.{PriceTimes, PricePlus, ColumnTimes, ColumnPlus}
use Rattle.ps_table.specs.declared.place.TableCol.{TableCol}
use Rattle.ps_table.specs.declared.place.WideAt.{WideAt}
use Rattle.ps_table.specs.declared.error.TableError.{TableError}
use Rattle.ps_table.specs.declared.error.TableError.TheVariants as refused
use Rattle.ps_table.specs.declared.costs.Costs.{Costs}
use Rattle.ps_table.specs.declared.col.Col.{Col}
use Rattle.ps_table.specs.declared.col.Col.TheVariants as col
use Rattle.ps_table.specs.Tableau.{Tableau, number_in, number_shown, rows_of, IsShown, home_at, entry_at, entry_of}
use Rattle.ps_table.specs.Tableau.{entries_of, basic_at, world_entry, column_part}
use Rattle.ps_table.specs.Pricing.{cost_at, cost_part, multiplier_of}

-- ---- operations
-- an operation on two numbers, with its place
pub record Operation : Type 0 where
  pub place : Place
  pub op : Op
  pub left : Rational
  pub right : Rational

-- ---- when an operation is refused
-- a named number of the operation is too large; a common multiple has none, since its places are of printed numbers
abbrev pub IsOperationWide : Op → Rational → Rational → Type 0
IsOperationWide Add x y = SumIsWide x y
IsOperationWide Sub x y = SumIsWide x (neg y)
IsOperationWide Mul x y = ProductIsWide x y
IsOperationWide Div x y = ProductIsWide x (inverse y)
IsOperationWide Lcm x y = ⊥

-- a number that an answer prints is too large
abbrev pub IsTooLargeToPrint : ℤ → Type 0
IsTooLargeToPrint z = PRINTED_LIMIT < unsigned_abs z

-- at a place of a printed number the result is too large to be printed, at each other one a named number is too large
abbrev pub IsWide : Operation → Type 0
IsWide o = elim o.place [
  | Whole i ↦ PRINTED_LIMIT < lcm (unsigned_abs o.left.over) (unsigned_abs o.right.over)
  | Scaled i ↦ IsTooLargeToPrint (mul o.left o.right).over
  | Weight i ↦ PRINTED_LIMIT < lcm (unsigned_abs o.left.over) (unsigned_abs o.right.over)
  | Weighed i ↦ IsTooLargeToPrint (mul o.left o.right).over
  | Total i ↦ IsTooLargeToPrint (add o.left o.right).over
  | Ratio i ↦ IsOperationWide o.op o.left o.right
  | Scale c ↦ IsOperationWide o.op o.left o.right
  | Times i c ↦ IsOperationWide o.op o.left o.right
  | Minus i c ↦ IsOperationWide o.op o.left o.right
  | Cost c i ↦ IsOperationWide o.op o.left o.right
  | PriceTimes k m ↦ IsOperationWide o.op o.left o.right
  | PricePlus k m ↦ IsOperationWide o.op o.left o.right
  | ColumnTimes k i m ↦ IsOperationWide o.op o.left o.right
  | ColumnPlus k i m ↦ IsOperationWide o.op o.left o.right
]

-- ---- the places of each call, in a table of n rows, of which X are the right side and the homes
-- the operations at the places of a pivot in row p, by the entries y of the column that enters
pub data PivotPlace (n : ℕ) (X : ℕ → ℕ → Rational) (y : ℕ → Rational) (p : ℕ) : Operation → Type 0 where
  at_scale : (c : TableCol) → IsShown n c
      → PivotPlace n X y p (record { place = Scale c; op = Div; left = X p (number_shown n c); right = y p })
  at_times : (i : ℕ) (c : TableCol) → i < n → i ≢ p → IsShown n c
      → PivotPlace n X y p (record { place = Times i c; op = Mul; left = y i; right = div (X p (number_shown n c)) (y p) })
  at_minus : (i : ℕ) (c : TableCol) → i < n → i ≢ p → IsShown n c
      → PivotPlace n X y p
      (record {
        place = Minus i c;
        op = Sub;
        left = X i (number_shown n c);
        right = mul (y i) (div (X p (number_shown n c)) (y p));
      })

-- the operations at the places of row i of the column of world k, of these entries
pub data ColumnPlace (n : ℕ) (X : ℕ → ℕ → Rational) (entries : List ℤ) (k i : ℕ) : Operation → Type 0 where
  at_column_times : (m : ℕ) → m < n
      → ColumnPlace n X entries k i
      (record { place = ColumnTimes k i m; op = Mul; left = X i (suc m); right = world_entry entries m })
  at_column_plus : (m : ℕ) → m < n
      → ColumnPlace n X entries k i
      (record {
        place = ColumnPlus k i m;
        op = Add;
        left = sum_to m (column_part X entries i);
        right = column_part X entries i m;
      })

-- what row m adds to the price of a world of these entries: its multiplier times its entry
abbrev pub price_part : (ℕ → Rational) → List ℤ → ℕ → Rational
price_part multipliers entries m = mul (multipliers m) (world_entry entries m)

-- the operations at the places of the price of world k, of these entries
pub data PricePlace (n : ℕ) (multipliers : ℕ → Rational) (entries : List ℤ) (k : ℕ) : Operation → Type 0 where
  at_price_times : (m : ℕ) → m < n
      → PricePlace n multipliers entries k
      (record { place = PriceTimes k m; op = Mul; left = multipliers m; right = world_entry entries m })
  at_price_plus : (m : ℕ) → m < n
      → PricePlace n multipliers entries k
      (record {
        place = PricePlus k m;
        op = Add;
        left = sum_to m (price_part multipliers entries);
        right = price_part multipliers entries m;
      })

-- the operations at the places of what the rows carry of column c
pub data CostPlace (n : ℕ) (cost : ℕ → Rational) (basic : ℕ → ℕ) (X : ℕ → ℕ → Rational) (c : Col) : Operation → Type 0 where
  at_cost : (i : ℕ) → i < n
      → CostPlace n cost basic X c
      (record {
        place = Cost c i;
        op = Add;
        left = sum_to i (cost_part cost basic X (number_in n c));
        right = cost_part cost basic X (number_in n c) i;
      })

-- the multiplier of a row: what is carried of its home
abbrev pub multiplier : ℕ → (ℕ → Rational) → (ℕ → ℕ) → (ℕ → ℕ → Rational) → ℕ → Rational
multiplier n cost basic X m = carried_by n cost basic X (suc m)

-- the least common multiple of the denominators of the multipliers before row i
abbrev pub multiple_to : ℕ → (ℕ → Rational) → (ℕ → ℕ) → (ℕ → ℕ → Rational) → ℕ → ℕ
multiple_to n cost basic X i = lcm_to i (λ m. (multiplier n cost basic X m).under)

-- the operations at the places of the whole multiples of the multipliers that a dual prints
pub data MultiplierPlace (n : ℕ) (cost : ℕ → Rational) (basic : ℕ → ℕ) (X : ℕ → ℕ → Rational) : Operation → Type 0 where
  at_whole : (i : ℕ) → i < n
      → MultiplierPlace n cost basic X
      (record {
        place = Whole i;
        op = Lcm;
        left = whole (pos (multiple_to n cost basic X i));
        right = whole (pos (multiplier n cost basic X i).under);
      })
  at_scaled : (i : ℕ) → i < n
      → MultiplierPlace n cost basic X
      (record {
        place = Scaled i;
        op = Mul;
        left = multiplier n cost basic X i;
        right = whole (pos (multiple_to n cost basic X n));
      })

-- the basic column of a row is a world, and its value is above 0
pub record IsWeighed (n : ℕ) (basic : ℕ → ℕ) (X : ℕ → ℕ → Rational) (i : ℕ) : Type 0 where
  pub world : n < basic i
  pub above : IsAbove (X i 0)

-- the denominator of a row's value where its basic column is a world, else 1; a value 0 has denominator 1
abbrev pub weight_under : ℕ → (ℕ → ℕ) → (ℕ → ℕ → Rational) → ℕ → ℕ
weight_under n basic X i = if ltb n (basic i) then (X i 0).under else 1

-- the least common multiple of the denominators of the values that make weights, before row i
abbrev pub weight_multiple_to : ℕ → (ℕ → ℕ) → (ℕ → ℕ → Rational) → ℕ → ℕ
weight_multiple_to n basic X i = lcm_to i (weight_under n basic X)

-- the weight of a row: its value times the multiple of all rows where its basic column is a world, else 0
abbrev pub weight_at : ℕ → (ℕ → ℕ) → (ℕ → ℕ → Rational) → ℕ → ℤ
weight_at n basic X i = if ltb n (basic i) then scaled (weight_multiple_to n basic X n) (X i 0) else pos 0

-- the operations at the places of the weights that a model prints, and of their sums
pub data WeightPlace (n : ℕ) (basic : ℕ → ℕ) (X : ℕ → ℕ → Rational) : Operation → Type 0 where
  at_weight : (i : ℕ) → i < n → IsWeighed n basic X i
      → WeightPlace n basic X
      (record {
        place = Weight i;
        op = Lcm;
        left = whole (pos (weight_multiple_to n basic X i));
        right = whole (pos (X i 0).under);
      })
  at_weighed : (i : ℕ) → i < n → IsWeighed n basic X i
      → WeightPlace n basic X
      (record { place = Weighed i; op = Mul; left = X i 0; right = whole (pos (weight_multiple_to n basic X n)) })
  at_total : (i : ℕ) → i < n → IsWeighed n basic X i
      → WeightPlace n basic X
      (record {
        place = Total i;
        op = Add;
        left = whole (int_sum_to i (weight_at n basic X));
        right = whole (weight_at n basic X i);
      })

-- ---- the places of a table's calls
-- the operations at the places of row i of a column: a home's is kept
abbrev pub EntryPlaces : Tableau → ℕ → Col → Operation → Type 0
EntryPlaces t i (col.Home m) o = ⊥
EntryPlaces t i (col.World k) o = ColumnPlace (rows_of t) (home_at t) (entries_of t k) k i o

-- the entries of a column, by row
abbrev pub column_of : Tableau → Col → ℕ → Rational
column_of t q i = entry_of t i q

-- the operations at the places of a pivot in a table: of the column that enters, and of the pivot
pub data PivotPlaces (t : Tableau) (p : ℕ) (q : Col) (o : Operation) : Type 0 where
  of_column : (i : ℕ) → i < rows_of t → EntryPlaces t i q o → PivotPlaces t p q o
  of_homes : PivotPlace (rows_of t) (home_at t) (column_of t q) p o → PivotPlaces t p q o

-- the operations at the places of what the rows of a table carry of a home
abbrev pub HomePlaces : Tableau → Costs → ℕ → Operation → Type 0
HomePlaces t costs m = CostPlace (rows_of t) (cost_at costs) (basic_at t) (entry_at t) (col.Home m)

-- the operations at the places of the price of a world in a table
abbrev pub PricePlaces : Tableau → Costs → ℕ → Operation → Type 0
PricePlaces t costs k = PricePlace (rows_of t) (multiplier_of t costs) (entries_of t k) k

-- the operations at the places of what is carried of a world: of all multipliers, and of its price
pub data WorldPlaces (t : Tableau) (costs : Costs) (k : ℕ) (o : Operation) : Type 0 where
  of_multiplier : (m : ℕ) → m < rows_of t → HomePlaces t costs m o → WorldPlaces t costs k o
  of_price : PricePlaces t costs k o → WorldPlaces t costs k o

-- the operations at the places of what is carried of a column of a table
abbrev pub CarriedPlaces : Tableau → Costs → Col → Operation → Type 0
CarriedPlaces t costs (col.Home m) = HomePlaces t costs m
CarriedPlaces t costs (col.World k) = WorldPlaces t costs k

-- ---- refusals
-- none of these operations is refused
pub record IsNarrow (P : Operation → Type 0) : Type 0 where
  pub nowhere : (o : Operation) → P o → ¬ IsWide o

-- the refusal is of one of these operations, which is wide
pub record IsWideAt (P : Operation → Type 0) (w : WideAt) : Type 0 where
  pub at : P (record { place = w.place; op = w.op; left = w.left; right = w.right })
  pub wide : IsWide (record { place = w.place; op = w.op; left = w.left; right = w.right })

-- a refusal is of one of these operations, which is wide, or is want of memory
abbrev pub IsRefusedAt : (Operation → Type 0) → TableError → Type 0
IsRefusedAt P (refused.Wide w) = IsWideAt P w
IsRefusedAt P refused.NoMemory = Unit {0}

-- no operation for a column is refused in any row
abbrev pub HasNarrowColumn : Tableau → Col → Type 0
HasNarrowColumn t q = (i : ℕ) → i < rows_of t → IsNarrow (EntryPlaces t i q)

-- an operation for the column is refused in a row
pub record IsColumnWide (t : Tableau) (q : Col) (w : WideAt) : Type 0 where
  pub row : ℕ
  pub within : row < rows_of t
  pub wide : IsWideAt (EntryPlaces t row q) w
