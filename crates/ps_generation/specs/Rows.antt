-- Lists of a table's multipliers and weights.
use Rattle.std.specs.Prelude.{◌≡◌, ℕ, ◌<◌, ◌≤◌, ℤ, pos, unsigned_abs, List, length, get_or}
use Rattle.ps_frac.specs.declared.wide.Op.TheVariants.{Mul, Lcm}
use Rattle.ps_meaning.specs.Gcd.{lcm_to}
use Rattle.ps_meaning.specs.Rational.{Rational, whole, zero_q}
use Rattle.ps_meaning.specs.Scaled.{scaled}
use Rattle.ps_table.specs.declared.place.Place.{Place}
use Rattle.ps_table.specs.declared.place.Place.TheVariants.{Whole, Scaled}
use Rattle.ps_table.specs.declared.place.WideAt.{WideAt}
use Rattle.ps_table.specs.declared.costs.Costs.{Costs}
use Rattle.ps_table.specs.Tableau.{Tableau, rows_of, basic_at, entry_at}
use Rattle.ps_table.specs.Pricing.{multiplier_of}
use Rattle.ps_table.specs.Grids.{Names}
use Rattle.ps_meaning.specs.Sums.{int_sum_to}
use Rattle.ps_meaning.specs.declared.limits.TheConstants.{PRINTED_LIMIT}
use Rattle.ps_table.specs.Places.{Operation, HomePlaces, IsNarrow, IsWeighed, weight_multiple_to}
use Rattle.ps_generation.specs.Multiples.{weight_of}

-- the multiplier of each row
pub record AreMultipliers (t : Tableau) (costs : Costs) (xs : List Rational) : Type 0 where
  pub count : length xs ≡ rows_of t
  pub each : (m : ℕ) → m < rows_of t → get_or xs m zero_q ≡ multiplier_of t costs m

-- nothing that is carried of the first n homes is too large
abbrev pub AreHomesNarrow : Tableau → Costs → ℕ → Type 0
AreHomesNarrow t costs n = (m : ℕ) → m < n → IsNarrow (HomePlaces t costs m)

-- the denominator of a number of a list
abbrev pub under_at : List Rational → ℕ → ℕ
under_at xs i = (get_or xs i zero_q).under

-- the least common multiple of the denominators before place i
abbrev pub multiple_before : List Rational → ℕ → ℕ
multiple_before xs i = lcm_to i (under_at xs)

-- the operations at the places of whole multiples of a list's numbers
pub data ListPlaces (xs : List Rational) : Operation → Type 0 where
  at_multiple : (i : ℕ) → i < length xs
      → ListPlaces xs
      (record { place = Whole i; op = Lcm; left = whole (pos (multiple_before xs i)); right = whole (pos (under_at xs i)) })
  at_product : (i : ℕ) → i < length xs
      → ListPlaces xs
      (record {
        place = Scaled i;
        op = Mul;
        left = get_or xs i zero_q;
        right = whole (pos (multiple_before xs (length xs)));
      })

-- a refusal of the least common multiple of two numbers at this place
abbrev pub NamesMultiple : Place → ℕ → ℕ → WideAt → Type 0
NamesMultiple place m n w = Names place Lcm (whole (pos m)) (whole (pos n)) w

-- the first n numbers of a list times a multiple, each small enough to be printed
pub record AreProducts (xs : List Rational) (big n : ℕ) (numbers : List ℤ) : Type 0 where
  pub count : length numbers ≡ n
  pub each : (i : ℕ) → i < n → get_or numbers i (pos 0) ≡ scaled big (get_or xs i zero_q)
  pub small : (i : ℕ) → i < n → unsigned_abs (get_or numbers i (pos 0)) ≤ PRINTED_LIMIT

-- ---- weights
-- the basic column of a row is a world of value above 0
abbrev pub IsWeighedIn : Tableau → ℕ → Type 0
IsWeighedIn t i = IsWeighed (rows_of t) (basic_at t) (entry_at t) i

-- the multiple of the values before row i
abbrev pub multiple_to_row : Tableau → ℕ → ℕ
multiple_to_row t i = weight_multiple_to (rows_of t) (basic_at t) (entry_at t) i

-- the number is this multiple, and small enough to be printed
pub record IsPrintedMultiple (big number : ℕ) : Type 0 where
  pub value : number ≡ big
  pub positive : 0 < number
  pub small : number ≤ PRINTED_LIMIT

-- the sum of the weights before row i
abbrev pub total_to_row : Tableau → ℕ → ℤ
total_to_row t i = int_sum_to i (weight_of t)

-- the weights of the first n rows, each small enough to be printed
pub record AreWeightRows (t : Tableau) (n : ℕ) (rows : List ℤ) : Type 0 where
  pub count : length rows ≡ n
  pub each : (i : ℕ) → i < n → get_or rows i (pos 0) ≡ weight_of t i
  pub small : (i : ℕ) → i < n → unsigned_abs (get_or rows i (pos 0)) ≤ PRINTED_LIMIT
