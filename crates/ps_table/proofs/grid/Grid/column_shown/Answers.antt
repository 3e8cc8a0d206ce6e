use Rattle.std.proofs.Common.{◌<◌, ◌+◌, suc, subst, sym, arith}
use Rattle.ps_table.specs.Tableau.{IsShown}
use Rattle.ps_table.specs.Grids.{GridCells}
use Rattle.ps_table.proofs.grid.Grid.column_shown.Goals as goal

pub returns-clause-shown : goal.returns-clause-shown
returns-clause-shown c =
    let hc : c.args.column < suc c.self.inside.rows = subst (λ (g : GridCells). c.args.column < suc g.rows) (sym c.self.view_is) c.requires.column in
    subst (λ (g : GridCells). IsShown g.rows c.column_shown.result) c.self.view_is c.column_shown.ensures.shown
