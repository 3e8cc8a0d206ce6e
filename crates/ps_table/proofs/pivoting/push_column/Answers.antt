use Rattle.std.proofs.Common.{◌≡◌, ◌∙◌, sym, rules}
use Rattle.ps_meaning.specs.Rational.{zero_q}
use Rattle.ps_table.specs.Grids.{cell_in, enters}
use Rattle.ps_table.proofs.Changes.{up_skipped}
use Rattle.ps_table.proofs.Zeros.{zero_scale_narrow}
use Rattle.ps_table.proofs.pivoting.push_column.Goals as goal

pub returns-then-is_zero-clause-narrow : goal.returns-then-is_zero-clause-narrow
returns-then-is_zero-clause-narrow c =
    let g = c.args.grid.now in
    let p = c.args.pivot.now in
    let z : c.cell.result ≡ zero_q = search rules in
    zero_scale_narrow (cell_in g p.row c.args.column) (enters p p.row) (sym c.cell.ensures.value ∙ z)

pub returns-then-is_zero-clause-after : goal.returns-then-is_zero-clause-after
returns-then-is_zero-clause-after c =
    let z : c.cell.result ≡ zero_q = search rules in
    up_skipped c.args.grid.now c.args.pivot.now c.args.column c.args.changes.now.items (sym c.cell.ensures.value ∙ z) c.column_fits.ensures c.requires.before
