use Rattle.std.proofs.Common.{rules, ◌≡◌, ℕ, ◌<◌, ◌≤◌, ◌≤ℤ◌, [], length, get_or, pos, negsuc}
use Rattle.ps_simplex.specs.Rule.{IsFeasible}
use Rattle.ps_bland.specs.Rules.{simplex_of}
use Rattle.ps_bland.specs.Ready.{HasNoNegativeValue}
use Rattle.ps_bland.proofs.Above.{ready_checked}
use Rattle.ps_bland.proofs.tests.is_ready_above.Goals as goal

pub returns-then-are_values_at_least_zero : goal.returns-then-are_values_at_least_zero
returns-then-are_values_at_least_zero g c = λ last.
    let costs = c.args.costs.now in
    let t = c.args.table.now in
    let worlds = c.args.entries.now in
    let rows : length t.kinds ≡ g.row.N = search rules in
    let eh : length costs.homes ≡ g.row.N = search rules in
    let lw : t.worlds ≤ length costs.worlds = search rules in
    let le : t.worlds ≤ length worlds = search rules in
    let hl : (i : ℕ) → i < length costs.homes → pos 0 ≤ℤ get_or costs.homes i (pos 0) = search rules in
    let hh : (i : ℕ) → i < length costs.homes → get_or costs.homes i (pos 0) ≤ℤ pos 0 = search rules in
    let wl : (i : ℕ) → i < length costs.worlds → negsuc 0 ≤ℤ get_or costs.worlds i (pos 0) = search rules in
    let wh : (i : ℕ) → i < length costs.worlds → get_or costs.worlds i (pos 0) ≤ℤ pos 0 = search rules in
    let ones : (k : ℕ) → k < length worlds → get_or (get_or worlds k []) 0 (pos 0) ≡ pos 1 = search rules in
    let values : HasNoNegativeValue t = search rules in
    let feasible : IsFeasible (simplex_of t) = search rules in
    ready_checked g.row.N costs t worlds c.requires.some rows eh lw le hl hh wl wh ones c.requires.stands values feasible
