use Rattle.std.proofs.Common.{ap, sym, subst, ◌∙◌, IfOk, IfErr}
use Rattle.ps_table.specs.Tableau.{Tableau, rows_of, home_at, entries_of, combined}
use Rattle.ps_table.specs.Places.{IsWideAt, IsNarrow}
use Rattle.ps_table.specs.Grids.{GridCells, grid_of, IsCombined, GridColumnPlaces}
use Rattle.ps_table.proofs.TableEntries.{over_table, world_is}
use Rattle.ps_table.proofs.KeptPivots.{ok_map}
use Rattle.ps_table.proofs.table.Table.world_entry.Goals as goal

pub returns : goal.returns
returns c =
    let t = c.args.self.now in
    let g = c.self.inside.kept in
    let k = c.args.number in
    let i = c.args.row in
    let r = c.combined_cell.result in
    let e = c.self.invariant.grid ∙ ap (λ (s : Tableau). grid_of s) c.self.view_is in
    let made = over_table (λ s es. IfOk r (IsCombined s es k i)) t g k c.world.result.now e c.world.ensures.entries c.combined_cell.ensures.combined in
    record {
      value = ok_map r (IsCombined (grid_of t) (entries_of t k) k i) _ (λ x h. h.value ∙ sym (world_is t i k c.requires.world.0)) made;
      narrow = ok_map r (IsCombined (grid_of t) (entries_of t k) k i) _ (λ x h. h.narrow) made;
      refused = over_table (λ s es. IfErr r (IsWideAt (GridColumnPlaces s es k i))) t g k c.world.result.now e c.world.ensures.entries c.combined_cell.ensures.refused;
    }
