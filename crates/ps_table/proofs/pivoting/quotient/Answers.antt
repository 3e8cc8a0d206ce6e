use Rattle.std.proofs.Common.{ap, sym, ◌∙◌}
use Rattle.ps_frac.specs.declared.wide.Op.TheVariants.{Div}
use Rattle.ps_table.specs.Grids.{cell_in, GridPivotPlaces}
use Rattle.ps_table.specs.Places.{at_scale}
use Rattle.ps_table.proofs.Columns.{refused_at}
use Rattle.ps_table.proofs.Narrow.{narrow_as}
use Rattle.ps_table.proofs.pivoting.quotient.Goals as goal

pub returns-clause-refused : goal.returns-clause-refused
returns-clause-refused c =
    let g = c.args.grid.now in
    let p = c.args.pivot.now in
    refused_at (GridPivotPlaces g p) c.divided_at.result _ _ _ _ _ _
    (c.cell.ensures.value ∙ ap (cell_in g p.row) (sym c.column_shown.ensures.number)) c.entry.ensures.value c.divided_at.ensures.operands c.divided_at.ensures.wide.0
    (at_scale c.column_shown.result c.column_shown.ensures.shown)

pub returns-clause-narrow : goal.returns-clause-narrow
returns-clause-narrow c = narrow_as c.divided_at.result Div _ _ _ _ c.cell.ensures.value c.entry.ensures.value c.divided_at.ensures.wide.1
