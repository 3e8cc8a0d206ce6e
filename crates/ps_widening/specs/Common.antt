-- The rows of a problem's bounds in their common unit, as they are kept.
use Rattle.std.specs.Prelude.{◌≡◌, ◌≤◌, length, All}
use Rattle.ps_problem.specs.Problems.{Parts}
use Rattle.ps_problem.specs.Rows.{IsRow}
use Rattle.ps_problem.specs.declared.limits.TheConstants.{MOST_BOUNDS, GREATEST_SCALE}
use Rattle.ps_widening.specs.Units.{unit_of, scaled_rows}
use Rattle.ps_widening.specs.declared.common_rows.CommonRows.{CommonRows}

-- unit and rows are those of the problem, within their limits
pub record IsCommon (p : Parts) (c : CommonRows) : Type 0 where
  pub unit : c.unit ≡ unit_of p
  pub rows : c.rows ≡ scaled_rows p
  pub sound : All (IsRow p.nodes) c.rows
  pub few : length c.rows ≤ MOST_BOUNDS
  pub some : 1 ≤ c.unit
  pub most : c.unit ≤ GREATEST_SCALE
