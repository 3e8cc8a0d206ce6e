use Rattle.std.proofs.Common.{rules, ◌≡◌, ℕ, ◌<◌, ◌≤ℤ◌, length, get_or, pos, ◌≤◌}
use Rattle.ps_meaning.specs.Order.{IsNonneg}
use Rattle.ps_table.specs.Tableau.{entry_at}
use Rattle.ps_bland.proofs.Ready.{ready_one}
use Rattle.ps_bland.proofs.tests.is_ready.Goals as goal

pub returns-then-are_between-2 : goal.returns-then-are_between-2
returns-then-are_between-2 c = λ last.
    let costs = c.args.costs.now in
    let t = c.args.table.now in
    let eh : length costs.homes ≡ length t.kinds = search rules in
    let lw : t.worlds ≤ length costs.worlds = search rules in
    let hl : (i : ℕ) → i < length costs.homes → pos 0 ≤ℤ get_or costs.homes i (pos 0) = search rules in
    let hh : (i : ℕ) → i < length costs.homes → get_or costs.homes i (pos 0) ≤ℤ pos 1 = search rules in
    let wl : (i : ℕ) → i < length costs.worlds → pos 0 ≤ℤ get_or costs.worlds i (pos 0) = search rules in
    let wh : (i : ℕ) → i < length costs.worlds → get_or costs.worlds i (pos 0) ≤ℤ pos 1 = search rules in
    let values : (i : ℕ) → i < length t.kinds → IsNonneg (entry_at t i 0) = search rules in
    ready_one costs t eh lw hl hh wl wh values
