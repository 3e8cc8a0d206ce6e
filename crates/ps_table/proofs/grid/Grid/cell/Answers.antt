use Rattle.std.proofs.Common.{◌<◌, ◌+◌, suc, length, subst, sym}
use Rattle.ps_table.specs.Grids.{GridCells}
use Rattle.ps_table.proofs.Columns.{cell_within}
use Rattle.ps_table.proofs.grid.Grid.cell.Goals as goal

pub cell-requires : goal.cell-requires
cell-requires c =
    let n = c.self.inside.rows in
    let w = suc n in
    let hr : c.args.row < n = subst (λ (g : GridCells). c.args.row < g.rows) (sym c.self.view_is) c.requires.row in
    let hc : c.args.column < w = subst (λ (g : GridCells). c.args.column < suc g.rows) (sym c.self.view_is) c.requires.column in
    cell_within c.args.row c.args.column n w (length c.self.inside.cells.now) hr hc c.self.invariant.size
