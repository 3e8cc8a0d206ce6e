-- The rows of a problem have values where its nodes have.
use Rattle.std.proofs.Common.{◌≡◌, ◌<◌, Bool, List, length, All, sym, subst}
use Rattle.std.proofs.lemmas.List.Elements.{All-weaker}
use Rattle.ps_formula.specs.declared.node.Node.{Node}
use Rattle.ps_problem.specs.declared.row.Row.{Row}
use Rattle.ps_problem.specs.Rows.{IsRow}
use Rattle.ps_runs.specs.Columns.{HasValues}

pub have_values : (ns : List Node) (rs : List Row) (values : List Bool) → length values ≡ length ns → All (IsRow ns) rs → All (HasValues values) rs
have_values ns rs values e are =
    All-weaker (IsRow ns) (HasValues values) (λ r is. record { nodes = subst (λ n. All (λ t. t.0 < n) r.terms) (sym e) is.nodes; small = is.small }) rs are
