use Rattle.std.proofs.Common.{rules, ◌≡◌, List, map, subst}
use Rattle.std.proofs.lemmas.Result.{IfOk-weaker}
use Rattle.ps_table.specs.Pricing.{cost_at}
use Rattle.ps_bland.specs.Rules.{simplex_of}
use Rattle.ps_problem.specs.declared.row.Row.{Row}
use Rattle.ps_problem.specs.Rows.{rows_in, row_of}
use Rattle.ps_claims.specs.Certificates.{dual_of}
use Rattle.ps_runs.specs.Certificates.{HaveSameNumbers, table_dual}
use Rattle.ps_runs.specs.Subjects.{asked_in}
use Rattle.ps_generation.specs.Duals.{IsTableDual}
use Rattle.ps_generation.specs.Rounds.{IsDualOver}
use Rattle.ps_generation.proofs.setting.Setting.dual.Goals as goal

pub returns-clause-numbers : goal.returns-clause-numbers
returns-clause-numbers c =
    let s = c.args.self.now.subject in
    let rows : c.rows.result.now ≡ rows_in s.parts.sentences = search rules in
    IfOk-weaker c.dual_of.result (IsTableDual c.args.kind c.rows.result.now c.args.table.now c.args.costs.now)
    (IsDualOver c.args.kind s c.args.table.now c.args.costs.now)
    (λ d h.
    subst (λ (rs : List Row). HaveSameNumbers (dual_of d)
    (table_dual c.args.kind (record { rows = map (row_of s.parts.nodes) rs; query = asked_in s.parts s.query }) (simplex_of c.args.table.now) (cost_at c.args.costs.now)))
    rows (h s.parts.nodes (asked_in s.parts s.query))) c.dual_of.ensures.value
