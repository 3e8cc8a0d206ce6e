use Rattle.std.proofs.Common.{◌≢◌, ◌<◌, set, sym, subst}
use Rattle.ps_meaning.specs.Rational.{zero_q}
use Rattle.ps_table.specs.Tableau.{Tableau, HasColumn, IsPivot, IsTableFor, entry_of, rows_of}
use Rattle.ps_table.specs.Places.{column_of}
use Rattle.ps_table.specs.Grids.{grid_of, ArePivotedBy}
use Rattle.ps_table.specs.KeptCells.{IsPivotOn}
use Rattle.ps_table.proofs.Columns.{turned, pivot_is, pivot_stands}
use Rattle.ps_table.proofs.Narrow.{pivots_narrow}
use Rattle.ps_table.proofs.table.Table.pivot.Goals as goal

pub returns-clause-pivot : goal.returns-clause-pivot
returns-clause-pivot c =
    let t : Tableau = record { kinds = c.self.inside.homes.items; worlds = c.self.inside.worlds; entries = c.self.inside.entries; cells = c.self.inside.kept.cells; basic = c.self.inside.basic.items } in
    let hp : c.args.row < rows_of t = subst (λ (s : Tableau). c.args.row < rows_of s) (sym c.self.view_is) c.requires.row in
    let made = c.in_ok-made.made in
    let hv : IsPivotOn (grid_of t) (column_of t c.args.col) c.args.row made = subst (λ (s : Tableau). IsPivotOn (grid_of s) (column_of s c.args.col) c.args.row made) (sym c.self.view_is) c.in_ok-made.ensures.pivoted in
    subst (λ old. IsPivot c.args.row c.args.col old (turned t c.args.row c.args.col made.cells)) c.self.view_is
    (pivot_is c.args.row c.args.col t made.cells c.self.invariant.tableau hp hv.pivoted)

pub returns-clause-stands : goal.returns-clause-stands
returns-clause-stands c = λ A old.
    let t : Tableau = record { kinds = c.self.inside.homes.items; worlds = c.self.inside.worlds; entries = c.self.inside.entries; cells = c.self.inside.kept.cells; basic = c.self.inside.basic.items } in
    let hp : c.args.row < rows_of t = subst (λ (s : Tableau). c.args.row < rows_of s) (sym c.self.view_is) c.requires.row in
    let hq : HasColumn t c.args.col = subst (λ (s : Tableau). HasColumn s c.args.col) (sym c.self.view_is) c.requires.col in
    let made = c.in_ok-made.made in
    let hv : IsPivotOn (grid_of t) (column_of t c.args.col) c.args.row made = subst (λ (s : Tableau). IsPivotOn (grid_of s) (column_of s c.args.col) c.args.row made) (sym c.self.view_is) c.in_ok-made.ensures.pivoted in
    let nz : entry_of t c.args.row c.args.col ≢ zero_q = subst (λ (s : Tableau). entry_of s c.args.row c.args.col ≢ zero_q) (sym c.self.view_is) c.requires.pivot in
    pivot_stands A c.args.row c.args.col t made.cells c.self.invariant.tableau hp hq nz (pivot_is c.args.row c.args.col t made.cells c.self.invariant.tableau hp hv.pivoted) (subst (IsTableFor A) (sym c.self.view_is) old)

pub returns-clause-narrow : goal.returns-clause-narrow
returns-clause-narrow c = pivots_narrow c.args.self.now c.args.row c.args.col c.in_ok-made.ensures.column c.in_ok-made.ensures.pivoted.narrow
