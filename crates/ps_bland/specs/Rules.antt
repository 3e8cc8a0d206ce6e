-- A table as the rule sees it, and its pivots by the rule.
use Rattle.std.specs.Prelude.{ℕ, ◌-◌, Bool, true, false, List, get_or}
use Rattle.ps_simplex.specs.Rule.{SimplexTable, IsDueToEnd, Enters, Leaves}
use Rattle.ps_table.specs.declared.home.Home.{Home}
use Rattle.ps_table.specs.declared.home.Home.TheVariants.{Slack, Artificial}
use Rattle.ps_table.specs.declared.col.Col.{Col}
use Rattle.ps_table.specs.declared.costs.Costs.{Costs}
use Rattle.ps_table.specs.Tableau.{Tableau, number_of, entry_at, basic_at, HasColumn, rows_of, width_of}
use Rattle.ps_table.specs.Pricing.{cost_at}
use Rattle.ps_simplex.specs.declared.phase.Phase.{Phase}

-- whether a home is an artificial
abbrev pub is_artificial : Home → Bool
is_artificial Slack = false
is_artificial Artificial = true

-- whether the column of this number is artificial; a world is none
abbrev pub artificial_at : List Home → ℕ → Bool
artificial_at kinds j = is_artificial (get_or kinds (j - 1) Slack)

-- the table as the rule sees it
abbrev pub simplex_of : Tableau → SimplexTable
simplex_of t = record {
  rows = rows_of t;
  width = width_of t;
  entry = entry_at t;
  basic = basic_at t;
  artificial = artificial_at t.kinds;
}

-- whether a column is an artificial one
abbrev pub is_artificial_column : Tableau → Col → Bool
is_artificial_column t c = artificial_at t.kinds (number_of t c)

-- phase one is due to end at the table
abbrev pub IsDueToEndIn : Phase → Tableau → Type 0
IsDueToEndIn phase t = IsDueToEnd phase (simplex_of t)

-- a pivot by the rule
pub record IsLawful (phase : Phase) (costs : Costs) (t : Tableau) (enter : Col) (leave : ℕ) : Type 0 where
  pub inside : HasColumn t enter
  pub unfinished : IsDueToEndIn phase t → ⊥
  pub enters : Enters (simplex_of t) (cost_at costs) (number_of t enter)
  pub leaves : Leaves phase (simplex_of t) (number_of t enter) leave
