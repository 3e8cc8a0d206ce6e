use Rattle.std.proofs.Common.{ap, sym, ◌∙◌}
use Rattle.ps_table.specs.Grids.{cell_in, lost_in, GridPivotPlaces}
use Rattle.ps_table.specs.Places.{at_minus}
use Rattle.ps_table.proofs.Columns.{refused_at}
use Rattle.ps_table.proofs.pivoting.changed_entry.Goals as goal

pub returns-clause-refused : goal.returns-clause-refused
returns-clause-refused c =
    let g = c.args.grid.now in
    let p = c.args.pivot.now in
    refused_at (GridPivotPlaces g p) c.minus_at.result _ _ _ _ _ _
    (c.cell.ensures.value ∙ ap (cell_in g c.args.row) (sym c.column_shown.ensures.number)) (c.in_ok-product.ensures.value ∙ ap (lost_in g p c.args.row) (sym c.column_shown.ensures.number))
    c.minus_at.ensures.operands c.minus_at.ensures.wide.0
    (at_minus c.args.row c.column_shown.result c.requires.cell.row c.requires.cell.other c.column_shown.ensures.shown)
