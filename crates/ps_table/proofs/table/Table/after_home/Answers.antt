use Rattle.std.proofs.Common.{◌≡◌, ◌+◌, suc, IfOk, IfErr, ap, sym, subst, ◌∙◌, arith}
use Rattle.ps_table.specs.declared.col.Col.TheVariants as col
use Rattle.ps_table.specs.Tableau.{Tableau}
use Rattle.ps_table.specs.Places.{IsRefusedAt, PivotPlaces, column_of}
use Rattle.ps_table.specs.Grids.{GridCells, GridPlaces, cell_in, grid_of}
use Rattle.ps_table.specs.KeptCells.{IsHomePivot, IsPivotOn}
use Rattle.ps_table.proofs.TableEntries.{home_value, home_pivot, home_refused}
use Rattle.ps_table.proofs.KeptPivots.{ok_map, err_map}
use Rattle.ps_table.proofs.table.Table.after_home.Goals as goal

pub after_home-requires-clause-pivot : goal.after_home-requires-clause-pivot
after_home-requires-clause-pivot c =
    let g = c.self.inside.kept in
    let one : 1 + c.args.home ≡ suc c.args.home = omega arith in
    let e : g ≡ grid_of c.args.self.now = c.self.invariant.grid ∙ ap (λ (s : Tableau). grid_of s) c.self.view_is in
    λ zero. c.requires.pivot
    (sym (home_value c.args.self.now g c.args.row (suc c.args.home) (cell_in g c.args.row (1 + c.args.home)) e (omega (arith, c.requires.home)) (ap (cell_in g c.args.row) one)) ∙ zero)

pub returns-clause-pivoted : goal.returns-clause-pivoted
returns-clause-pivoted c =
    let t = c.args.self.now in
    let g = c.self.inside.kept in
    let p = c.args.row in
    let m = c.args.home in
    let r = c.after_home.result in
    let one : 1 + m ≡ suc m = omega arith in
    let e : g ≡ grid_of t = c.self.invariant.grid ∙ ap (λ (s : Tableau). grid_of s) c.self.view_is in
    let pivoted : IfOk r (IsHomePivot (grid_of t) p (suc m)) = subst (λ j. IfOk r (IsHomePivot (grid_of t) p j)) one (subst (λ (s : GridCells). IfOk r (IsHomePivot s p (1 + m))) e c.after_home.ensures.pivoted) in
    ok_map r (IsHomePivot (grid_of t) p (suc m)) (IsPivotOn (grid_of t) (column_of t (col.Home m)) p) (λ new h. home_pivot t p m new c.requires.home h) pivoted

pub returns-clause-refused : goal.returns-clause-refused
returns-clause-refused c =
    let t = c.args.self.now in
    let g = c.self.inside.kept in
    let p = c.args.row in
    let m = c.args.home in
    let r = c.after_home.result in
    let one : 1 + m ≡ suc m = omega arith in
    let e : g ≡ grid_of t = c.self.invariant.grid ∙ ap (λ (s : Tableau). grid_of s) c.self.view_is in
    let refused : IfErr r (IsRefusedAt (GridPlaces (grid_of t) (λ i. cell_in (grid_of t) i (suc m)) p)) =
    subst (λ j. IfErr r (IsRefusedAt (GridPlaces (grid_of t) (λ i. cell_in (grid_of t) i j) p))) one (subst (λ (s : GridCells). IfErr r (IsRefusedAt (GridPlaces s (λ i. cell_in s i (1 + m)) p))) e c.after_home.ensures.refused) in
    err_map r (IsRefusedAt (GridPlaces (grid_of t) (λ i. cell_in (grid_of t) i (suc m)) p)) (IsRefusedAt (PivotPlaces t p (col.Home m))) (λ x h. home_refused t p m x c.requires.home h) refused
