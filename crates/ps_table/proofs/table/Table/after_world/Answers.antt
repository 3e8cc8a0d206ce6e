use Rattle.std.proofs.Common.{◌≡◌, IfOk, IfErr, ap, sym, subst, ◌∙◌}
use Rattle.ps_table.specs.declared.col.Col.TheVariants as col
use Rattle.ps_table.specs.Tableau.{Tableau, entries_of}
use Rattle.ps_table.specs.Grids.{combined_in, grid_of}
use Rattle.ps_table.specs.KeptCells.{IsPivotOn, IsWorldPivot, IsWorldRefusal}
use Rattle.ps_table.specs.Places.{IsRefusedAt, PivotPlaces, HasNarrowColumn, column_of}
use Rattle.ps_table.proofs.TableEntries.{over_table, world_is, world_pivot, world_narrow_column, world_refused}
use Rattle.ps_table.proofs.KeptPivots.{ok_map, err_map}
use Rattle.ps_table.proofs.table.Table.after_world.Goals as goal

pub after_world-requires-clause-pivot : goal.after_world-requires-clause-pivot
after_world-requires-clause-pivot c =
    let t = c.args.self.now in
    let g = c.self.inside.kept in
    let e : g ≡ grid_of t = c.self.invariant.grid ∙ ap (λ (s : Tableau). grid_of s) c.self.view_is in
    let same : combined_in g c.world.result.now c.args.row ≡ combined_in (grid_of t) (entries_of t c.args.number) c.args.row = λ z. combined_in (e z) (c.world.ensures.entries z) c.args.row in
    λ zero. c.requires.pivot (world_is t c.args.row c.args.number c.requires.world.0 ∙ sym same ∙ zero)

pub returns-clause-pivoted : goal.returns-clause-pivoted
returns-clause-pivoted c =
    let t = c.args.self.now in
    let g = c.self.inside.kept in
    let p = c.args.row in
    let k = c.args.number in
    let r = c.after_world.result in
    let e : g ≡ grid_of t = c.self.invariant.grid ∙ ap (λ (s : Tableau). grid_of s) c.self.view_is in
    let es = c.world.result.now in
    let pivoted : IfOk r (IsWorldPivot (grid_of t) p (entries_of t k) k) = over_table (λ s x. IfOk r (IsWorldPivot s p x k)) t g k es e c.world.ensures.entries c.after_world.ensures.pivoted in
    ok_map r (IsWorldPivot (grid_of t) p (entries_of t k) k) (IsPivotOn (grid_of t) (column_of t (col.World k)) p) (λ new h. world_pivot t p k new c.requires.world.0 h) pivoted

pub returns-clause-column : goal.returns-clause-column
returns-clause-column c =
    let t = c.args.self.now in
    let g = c.self.inside.kept in
    let p = c.args.row in
    let k = c.args.number in
    let r = c.after_world.result in
    let e : g ≡ grid_of t = c.self.invariant.grid ∙ ap (λ (s : Tableau). grid_of s) c.self.view_is in
    let es = c.world.result.now in
    let pivoted : IfOk r (IsWorldPivot (grid_of t) p (entries_of t k) k) = over_table (λ s x. IfOk r (IsWorldPivot s p x k)) t g k es e c.world.ensures.entries c.after_world.ensures.pivoted in
    ok_map r (IsWorldPivot (grid_of t) p (entries_of t k) k) (λ _. HasNarrowColumn t (col.World k)) (λ new h. world_narrow_column t p k new h) pivoted

pub returns-clause-refused : goal.returns-clause-refused
returns-clause-refused c =
    let t = c.args.self.now in
    let g = c.self.inside.kept in
    let p = c.args.row in
    let k = c.args.number in
    let r = c.after_world.result in
    let e : g ≡ grid_of t = c.self.invariant.grid ∙ ap (λ (s : Tableau). grid_of s) c.self.view_is in
    let es = c.world.result.now in
    let refused : IfErr r (IsWorldRefusal (grid_of t) p (entries_of t k) k) = over_table (λ s x. IfErr r (IsWorldRefusal s p x k)) t g k es e c.world.ensures.entries c.after_world.ensures.refused in
    err_map r (IsWorldRefusal (grid_of t) p (entries_of t k) k) (IsRefusedAt (PivotPlaces t p (col.World k))) (λ x h. world_refused t p k x c.requires.world.0 h) refused
