-- The homes, the entries and the costs of a table over rows, by the truth values of nodes.
use Rattle.std.specs.Prelude.{ℕ, ◌≤◌, ℤ, pos, neg_ℤ, Bool, List, ◌∷◌, map, All, Option}
use Rattle.ps_meaning.specs.declared.side.Side.{Side}
use Rattle.ps_meaning.specs.declared.side.Side.TheVariants.{AtLeast, AtMost, Exactly}
use Rattle.ps_meaning.specs.Formula.{World}
use Rattle.ps_formula.specs.declared.node.Node.{Node}
use Rattle.ps_formula.specs.Nodes.{truths}
use Rattle.ps_problem.specs.declared.row.Row.{Row}
use Rattle.ps_problem.specs.declared.limits.TheConstants.{MOST_SIZES}
use Rattle.ps_problem.specs.Rows.{HasTerm, row_size, indicator_of, given_indicator, row_over, signed_by}
use Rattle.ps_table.specs.declared.home.Home.{Home}
use Rattle.ps_table.specs.declared.home.Home.TheVariants.{Slack, Artificial}
use Rattle.ps_simplex.specs.declared.phase.Phase.{Phase}
use Rattle.ps_simplex.specs.declared.phase.Phase.TheVariants.{One, Lower, Upper}

-- ---- columns of worlds
-- the nodes of a row have values, and its numbers are within their limit
pub record HasValues (values : List Bool) (r : Row) : Type 0 where
  pub nodes : All (HasTerm values) r.terms
  pub small : row_size r ≤ MOST_SIZES

-- a row's entry in a world's column
abbrev pub entry_over : List Bool → Row → ℤ
entry_over values r = signed_by r.side (row_over values r)

-- the column of a world: whether the evidence is true in it, and the entry of each row
abbrev pub column_over : List Bool → List Row → Option ℕ → List ℤ
column_over values rows evidence = given_indicator values evidence ∷ map (entry_over values) rows

-- ---- homes
-- the home of a row: an equation has no slack
abbrev pub home_for : Side → Home
home_for AtLeast = Slack
home_for AtMost = Slack
home_for Exactly = Artificial

-- the homes: that of row 0 is artificial, and behind it is that of each row
abbrev pub homes_over : List Row → List Home
homes_over rows = Artificial ∷ map (λ r. home_for r.side) rows

-- ---- costs
-- phase one makes the artificials as small as it can
abbrev pub home_cost : Phase → Home → ℤ
home_cost One Artificial = pos 1
home_cost One Slack = pos 0
home_cost Lower h = pos 0
home_cost Upper h = pos 0

-- the sides make the query, whose node with its evidence is this, as small or as great as they can
abbrev pub cost_over : Phase → ℕ → List Bool → ℤ
cost_over One both values = pos 0
cost_over Lower both values = indicator_of values both
cost_over Upper both values = neg_ℤ (indicator_of values both)

-- the costs of worlds
abbrev pub costs_over : Phase → List Node → ℕ → List World → List ℤ
costs_over phase nodes both worlds = map (λ w. cost_over phase both (truths nodes w)) worlds
