use Rattle.std.proofs.Common.{◌≡◌, ◌<◌, ◌≤◌, ◌-◌, ℕ, List, length, subst, sym, rules, ℤ}
use Rattle.ps_meaning.specs.Rational.{Rational}
use Rattle.ps_simplex.specs.Table.{HasHomes, unit_at}
use Rattle.ps_table.specs.Tableau.{Tableau, IsTableFor, entry_at}
use Rattle.ps_table.proofs.Columns.{new_stands, new_cells}
use Rattle.ps_table.proofs.table.Table.new.Goals as goal

pub returns-clause-stands : goal.returns-clause-stands
returns-clause-stands c = λ A homes.
    let e : length c.extend_from_slice.new.self.items ≡ length c.args.homes.now = search rules in
    let made : List (List ℤ) → Tableau = λ worlds. record { kinds = c.extend_from_slice.new.self.items; worlds = 0; entries = worlds; cells = c.in_ok-kept.kept.cells; basic = c.in_ok-basic.basic.items } in
    subst (λ worlds. IsTableFor A (made worlds)) (sym c.new.ensures)
    (new_stands (length c.args.homes.now) c.extend_from_slice.new.self.items c.in_ok-kept.kept.cells c.in_ok-basic.basic.items e c.requires.some c.in_ok-kept.ensures.count c.in_ok-kept.ensures.units c.in_ok-basic.ensures.value A homes)

pub returns-clause-cells : goal.returns-clause-cells
returns-clause-cells c = λ i j hi hj.
    let e : length c.extend_from_slice.new.self.items ≡ length c.args.homes.now = search rules in
    let made : List (List ℤ) → Tableau = λ worlds. record { kinds = c.extend_from_slice.new.self.items; worlds = 0; entries = worlds; cells = c.in_ok-kept.kept.cells; basic = c.in_ok-basic.basic.items } in
    subst (λ worlds. entry_at (made worlds) i j ≡ unit_at i (j - 1)) (sym c.new.ensures)
    (new_cells (length c.args.homes.now) c.extend_from_slice.new.self.items c.in_ok-kept.kept.cells c.in_ok-basic.basic.items e c.in_ok-kept.ensures.units i j hi hj)
