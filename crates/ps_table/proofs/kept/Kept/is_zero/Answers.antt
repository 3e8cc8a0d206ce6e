use Rattle.std.proofs.Common.{◌≡◌, ◌<◌, ◌+◌, ◌*◌, suc, length, subst, sym, ◌∙◌}
use Rattle.ps_table.specs.Grids.{GridCells}
use Rattle.ps_table.specs.KeptCells.{HaveSize}
use Rattle.ps_table.proofs.Columns.{cell_within}
use Rattle.ps_table.proofs.KeptCells.{kept_is_whole, cell_is}
use Rattle.ps_table.proofs.kept.Kept.is_zero.Goals as goal

pub cell-requires : goal.cell-requires
cell-requires c =
    let n = c.self.inside.rows in
    let w = suc n in
    let hr : c.args.row < n = subst (λ (g : GridCells). c.args.row < g.rows) (sym c.self.view_is) c.requires.row in
    let hc : c.args.column < w = subst (λ (g : GridCells). c.args.column < suc g.rows) (sym c.self.view_is) c.requires.column in
    let size : length c.in-Fractions.cells.items ≡ w * n = subst (HaveSize n) c.in-Fractions.is c.self.invariant.size in
    rw c.deref.ensures.value (cell_within c.args.row c.args.column n w (length c.in-Fractions.cells.items) hr hc size)

pub returns-in-Whole : goal.returns-in-Whole
returns-in-Whole c =
    let w = c.in-Whole.whole in
    let g = c.args.self.now in
    let h = kept_is_whole c.self.inside.rows c.self.inside.cells w g c.self.invariant c.in-Whole.is c.self.view_is in
    record { zero = λ yes. cell_is w g h c.args.row c.args.column c.requires.row c.requires.column ∙ c.has_number_zero.ensures.zero yes }
