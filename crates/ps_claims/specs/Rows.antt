-- The rows of a problem's bounds, over formulas and over nodes.
use Rattle.std.specs.Prelude.{◌↔◌, ℕ, ◌≤◌, ◌<◌, ℤ, unsigned_abs, List, length, map, All}
use Rattle.std.specs.List.{AllZip}
use Rattle.ps_meaning.specs.Distribution.{Entry}
use Rattle.ps_meaning.specs.Bounds.{Bound, MeetsBound}
use Rattle.ps_meaning.specs.Rows as meaning
use Rattle.ps_meaning.specs.Rows.{MeetsRow}
use Rattle.ps_formula.specs.declared.node.Node.{Node}
use Rattle.ps_formula.specs.declared.limits.TheConstants.{MOST_NODES}
use Rattle.ps_problem.specs.declared.limits.TheConstants.{MOST_BOUNDS, MOST_SIZES}
use Rattle.ps_problem.specs.declared.row.Row.{Row}
use Rattle.ps_problem.specs.Problems.{Parts}
use Rattle.ps_problem.specs.Rows as problem
use Rattle.ps_problem.specs.Rows.{rows_in, row_of}

-- ---- rows over formulas
-- the rows of a problem's bounds, over formulas
abbrev pub problem_rows : Parts → List meaning.Row
problem_rows p = map (row_of p.nodes) (rows_in p.sentences)

-- each bound is met exactly where its row is
abbrev pub AreRowsOf : List Bound → List meaning.Row → Type 0
AreRowsOf bounds rows = AllZip (λ b r. (d : List Entry) → MeetsBound b d ↔ MeetsRow r d) bounds rows

-- the distribution meets each row
abbrev pub MeetsRows : List meaning.Row → List Entry → Type 0
MeetsRows rows d = All (λ r. MeetsRow r d) rows

-- ---- rows over nodes
-- a number that a node of a problem may have
abbrev pub IsNode : ℕ → Type 0
IsNode n = n < MOST_NODES

-- the number is within the limit of a row's sizes
abbrev pub IsSmall : ℤ → Type 0
IsSmall z = unsigned_abs z ≤ MOST_SIZES

-- a term whose node a problem may have, with a number within the limit
pub record IsSmallTerm (t : ℕ × ℤ) : Type 0 where
  pub node : IsNode t.0
  pub number : IsSmall t.1

-- a row whose nodes a problem may have, with numbers within the limit
pub record IsSmallRow (r : Row) : Type 0 where
  pub base : IsSmall r.base
  pub terms : All IsSmallTerm r.terms

-- at most as many rows as a problem may have, over nodes that are there, at most as many as it may have
pub record AreOverNodes (rs : List Row) : Type 0 where
  pub nodes : List Node
  pub few_nodes : length nodes ≤ MOST_NODES
  pub rows : All (problem.IsRow nodes) rs
  pub few : length rs ≤ MOST_BOUNDS
