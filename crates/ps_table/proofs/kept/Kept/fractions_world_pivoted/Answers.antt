use Rattle.std.proofs.Common.{◌≢◌, inl, inr, ap, sym, subst, ◌∙◌}
use Rattle.ps_table.specs.Grids.{combined_in, GridPlaces, enters}
use Rattle.ps_table.specs.KeptCells.{IsPivotOn, IsWorldPivot, IsWorldRefusal}
use Rattle.ps_table.specs.Places.{IsRefusedAt}
use Rattle.ps_table.specs.declared.pivot.Pivot.{Pivot}
use Rattle.ps_table.proofs.KeptPivots.{on_same, refused_world, ok_map, err_map}
use Rattle.ps_table.proofs.kept.Kept.fractions_world_pivoted.Goals as goal

pub fractions_pivoted-requires : goal.fractions_pivoted-requires
fractions_pivoted-requires c =
    let made = c.in_ok-entering.ensures.made in
    record {
      pivot = record {
        grid = c.requires.column.grid;
        row = c.requires.row;
        count = made.count;
        not_zero = λ e. c.requires.pivot (sym (made.cells c.args.row c.requires.row) ∙ e);
      };
    }

pub returns-clause-pivoted : goal.returns-clause-pivoted
returns-clause-pivoted c =
    let g = c.args.self.now in
    let p = c.args.row in
    let es = c.args.entries.now in
    let made = c.in_ok-entering.ensures.made in
    let turn : Pivot = record { row = p; entering = c.in_ok-entering.entering } in
    let y = enters turn in
    let z = combined_in g es in
    ok_map c.fractions_pivoted.result (IsPivotOn g y p) (IsWorldPivot g p es c.args.number)
    (λ new h. record { pivot = on_same g y z p c.requires.row c.requires.column.grid.size made.cells new h; column = made.narrow }) c.fractions_pivoted.ensures.pivoted

pub returns-clause-refused : goal.returns-clause-refused
returns-clause-refused c =
    let g = c.args.self.now in
    let p = c.args.row in
    let es = c.args.entries.now in
    let made = c.in_ok-entering.ensures.made in
    let turn : Pivot = record { row = p; entering = c.in_ok-entering.entering } in
    let y = enters turn in
    err_map c.fractions_pivoted.result (IsRefusedAt (GridPlaces g y p)) (IsWorldRefusal g p es c.args.number)
    (refused_world g y es p c.args.number c.requires.row c.requires.column.grid.size made.cells) c.fractions_pivoted.ensures.refused
