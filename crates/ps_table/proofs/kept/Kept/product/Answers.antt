use Rattle.std.proofs.Common.{◌≡◌, ◌∙◌, ap, arith, rules}
use Rattle.ps_table.specs.Tableau.{world_entry}
use Rattle.ps_table.specs.Grids.{cell_in, GridColumnPlaces}
use Rattle.ps_table.specs.Places.{at_column_times}
use Rattle.ps_table.proofs.Columns.{refused_at}
use Rattle.ps_table.proofs.kept.Kept.product.Goals as goal

pub returns-clause-refused : goal.returns-clause-refused
returns-clause-refused c =
    let e : c.new-factor.result ≡ world_entry c.args.entries.now c.args.m = search rules in
    refused_at (GridColumnPlaces c.args.self.now c.args.entries.now c.args.number c.args.i) c.times_at.result _ _ _ _ _ _
    (c.entry.ensures.value ∙ ap (cell_in c.args.self.now c.args.i) (omega arith)) e c.times_at.ensures.operands c.times_at.ensures.wide.0
    (at_column_times c.args.m c.requires.m_in)
