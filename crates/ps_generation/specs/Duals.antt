-- The duals of the solver's tables.
use Rattle.std.specs.Prelude.{◌≡◌, ℕ, suc, ℤ, pos, List, get_or, map}
use Rattle.ps_formula.specs.declared.node.Node.{Node}
use Rattle.ps_problem.specs.declared.row.Row.{Row}
use Rattle.ps_problem.specs.Rows.{row_of}
use Rattle.ps_claims.specs.Queries.{Query}
use Rattle.ps_table.specs.declared.costs.Costs.{Costs}
use Rattle.ps_table.specs.Tableau.{Tableau}
use Rattle.ps_table.specs.Pricing.{cost_at}
use Rattle.ps_bland.specs.Rules.{simplex_of}
use Rattle.ps_claims.specs.declared.claim_kind.ClaimKind.{ClaimKind}
use Rattle.ps_answer.specs.declared.answer.Dual.{Dual}
use Rattle.ps_claims.specs.Certificates.{dual_of}
use Rattle.ps_runs.specs.Certificates.{signed, table_dual, HaveSameNumbers}

-- the whole numbers of the rows of bounds, which stand behind that of row 0
abbrev pub row_numbers : List ℤ → ℕ → ℤ
row_numbers numbers i = get_or numbers (suc i) (pos 0)

-- these are the whole numbers of rows, turned round at those of lower bounds, whatever the nodes
abbrev pub AreSigned : List Row → (ℕ → ℤ) → List ℤ → Type 0
AreSigned rows P numbers = (ns : List Node) → numbers ≡ signed (map (row_of ns) rows) P

-- the dual has the numbers of the dual of a table over these rows, whatever the nodes and the query
abbrev pub IsTableDual : ClaimKind → List Row → Tableau → Costs → Dual → Type 0
IsTableDual kind rows t costs d = (ns : List Node) (q : Query)
    → HaveSameNumbers (dual_of d) (table_dual kind (record {
      rows = map (row_of ns) rows;
      query = q;
    }) (simplex_of t) (cost_at costs))
