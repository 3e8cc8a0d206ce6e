use Rattle.std.proofs.Common.{ap, sym, ◌∙◌}
use Rattle.ps_frac.specs.declared.wide.Op.TheVariants.{Mul}
use Rattle.ps_table.specs.Grids.{scaled_in, GridPivotPlaces}
use Rattle.ps_table.specs.Places.{at_times}
use Rattle.ps_table.proofs.Columns.{refused_at}
use Rattle.ps_table.proofs.Narrow.{narrow_as}
use Rattle.ps_table.proofs.pivoting.lost.Goals as goal

pub returns-clause-refused : goal.returns-clause-refused
returns-clause-refused c =
    let g = c.args.grid.now in
    let p = c.args.pivot.now in
    refused_at (GridPivotPlaces g p) c.times_at.result _ _ _ _ _ _
    c.entry.ensures.value (c.requires.scaled ∙ ap (scaled_in g p) (sym c.column_shown.ensures.number)) c.times_at.ensures.operands c.times_at.ensures.wide.0
    (at_times c.args.row c.column_shown.result c.requires.cell.row c.requires.cell.other c.column_shown.ensures.shown)

pub returns-clause-narrow : goal.returns-clause-narrow
returns-clause-narrow c = narrow_as c.times_at.result Mul _ _ _ _ c.entry.ensures.value c.requires.scaled c.times_at.ensures.wide.1
