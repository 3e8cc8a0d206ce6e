-- What the making of rows in a common unit asks of them.
use Rattle.std.specs.Prelude.{◌≤◌}
use Rattle.ps_problem.specs.declared.limits.TheConstants.{GREATEST_SCALE, MOST_SIZES}
use Rattle.ps_problem.specs.declared.row.Row.{Row}
use Rattle.ps_problem.specs.Rows.{row_size}

-- a row's unit and its sizes are within their limits
pub record IsMeasured (r : Row) : Type 0 where
  pub some : 1 ≤ r.unit
  pub most : r.unit ≤ GREATEST_SCALE
  pub small : row_size r ≤ MOST_SIZES
