-- The common unit of rows: the least common multiple of their units, in which the numbers of each are whole.
use Rattle.std.specs.Prelude.{◌≡◌, ℕ, suc, ◌*◌, ◌/◌, nat_lt, Bool, if◌then◌else◌, ℤ, pos, ◌*ℤ◌, List, [], ◌∷◌, map}
use Rattle.std.specs.Prelude.{Option, Some, None, Result, Ok, Err}
use Rattle.ps_meaning.specs.Gcd.{lcm}
use Rattle.ps_meaning.specs.Rows as meaning
use Rattle.ps_problem.specs.declared.limits.TheConstants.{GREATEST_SCALE, MOST_SIZES}
use Rattle.ps_problem.specs.declared.row.Row.{Row}
use Rattle.ps_problem.specs.Problems.{Parts}
use Rattle.ps_problem.specs.Rows.{rows_in, row_of, row_size}

-- the least common multiple of a number and of the units of rows
abbrev pub unit_with : ℕ → List Row → ℕ
unit_with unit [] = unit
unit_with unit (r ∷ rs) = unit_with (lcm unit r.unit) rs

-- the common unit of rows, 1 for none
abbrev pub common_unit : List Row → ℕ
common_unit rs = unit_with 1 rs

-- the number of the first row, where they are numbered from here on, up to which the common unit is past its limit
abbrev pub first_past : ℕ → ℕ → List Row → Option ℕ
first_past n unit [] = None
first_past n unit (r ∷ rs) = if nat_lt GREATEST_SCALE (lcm unit r.unit) then Some n else first_past (suc n) (lcm unit r.unit) rs

-- by how much a row is multiplied to count in a unit
abbrev pub factor : ℕ → Row → ℕ
factor unit r = unit / r.unit

-- the sizes of a row's numbers, counted in a unit, are past their limit; those of a plain bound never are
abbrev pub is_wide : ℕ → Row → Bool
is_wide unit r = nat_lt MOST_SIZES (factor unit r * row_size r)

-- the number of the first row whose sizes are past their limit
abbrev pub first_wide : ℕ → ℕ → List Row → Option ℕ
first_wide n unit [] = None
first_wide n unit (r ∷ rs) = if is_wide unit r then Some n else first_wide (suc n) unit rs

-- the number, or else what comes later
abbrev pub or_later : Option ℕ → Option ℕ → Option ℕ
or_later (Some n) later = Some n
or_later None later = later

-- the number of the row at which rows have no common unit within the limits, if there is one
abbrev pub unscaled_at : List Row → Option ℕ
unscaled_at rs = or_later (first_past 1 1 rs) (first_wide 1 (common_unit rs) rs)

-- the number of the bound at which a problem's rows have no common unit within the limits, if there is one
abbrev pub unscaled : Parts → Option ℕ
unscaled p = unscaled_at (rows_in p.sentences)

-- a problem's rows have a common unit within the limits
abbrev pub IsScaled : Parts → Type 0
IsScaled p = unscaled p ≡ None

-- terms, each number times a factor
abbrev pub scaled_terms : ℕ → List (ℕ × ℤ) → List (ℕ × ℤ)
scaled_terms k ts = map (λ t. (t.0, pos k *ℤ t.1)) ts

-- a row that counts in this unit
abbrev pub scaled_row : ℕ → Row → Row
scaled_row unit r = record {
  side = r.side;
  unit = unit;
  base = pos (factor unit r) *ℤ r.base;
  terms = scaled_terms (factor unit r) r.terms;
}

-- the common unit of a problem's rows
abbrev pub unit_of : Parts → ℕ
unit_of p = common_unit (rows_in p.sentences)

-- a problem's rows in their common unit, over its nodes
abbrev pub scaled_rows : Parts → List Row
scaled_rows p = map (scaled_row (unit_of p)) (rows_in p.sentences)

-- a problem's rows in their common unit, over formulas
abbrev pub widened_rows : Parts → List meaning.Row
widened_rows p = map (row_of p.nodes) (scaled_rows p)

-- the common unit is found, or the number of the first row up to which it is past its limit
abbrev pub TellsUnit : List Row → Result ℕ ℕ → Type 0
TellsUnit rs (Ok unit) = (first_past 1 1 rs ≡ None) × (unit ≡ common_unit rs)
TellsUnit rs (Err n) = first_past 1 1 rs ≡ Some n
