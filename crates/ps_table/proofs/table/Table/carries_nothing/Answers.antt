use Rattle.std.proofs.Common.{suc, ◌≡◌, pos, sym, ◌∙◌, arith, rules}
use Rattle.std.proofs.lemmas.Int.{ints}
use Rattle.ps_table.specs.Tableau.{basic_at, entry_at}
use Rattle.ps_table.specs.Pricing.{cost_number}
use Rattle.ps_table.proofs.Zeros.{zero_cost, zero_entry}
use Rattle.ps_table.proofs.table.Table.carries_nothing.Goals as goal

pub returns-then-basic_cost-eq0 : goal.returns-then-basic_cost-eq0
returns-then-basic_cost-eq0 c =
    let t = c.args.self.now in
    let z : c.basic_cost.result ≡ pos 0 = omega (arith, ints) in
    let is : c.basic_cost.result ≡ cost_number c.args.costs.now (basic_at t c.args.row) = search rules in
    record { nothing = λ _. zero_cost (cost_number c.args.costs.now (basic_at t c.args.row)) (entry_at t c.args.row (suc c.args.home)) (sym is ∙ z) }

pub returns-else-basic_cost-eq0 : goal.returns-else-basic_cost-eq0
returns-else-basic_cost-eq0 c =
    let t = c.args.self.now in
    record { nothing = λ yes. zero_entry (cost_number c.args.costs.now (basic_at t c.args.row)) (entry_at t c.args.row (suc c.args.home)) (c.has_zero.ensures.zero yes) }
