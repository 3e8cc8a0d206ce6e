use Rattle.std.proofs.Common.{ℕ, ◌≢◌, ap, sym, subst, ◌∙◌}
use Rattle.ps_meaning.specs.Rational.{Rational, zero_q}
use Rattle.ps_table.specs.Grids.{cell_in, GridPlaces, enters}
use Rattle.ps_table.specs.KeptCells.{IsPivotOn}
use Rattle.ps_table.specs.Places.{IsRefusedAt}
use Rattle.ps_table.specs.declared.pivot.Pivot.{Pivot}
use Rattle.ps_table.proofs.KeptPivots.{on_same, refused_same, ok_map, err_map}
use Rattle.ps_table.proofs.kept.Kept.fractions_home_pivoted.Goals as goal

pub fractions_pivoted-requires : goal.fractions_pivoted-requires
fractions_pivoted-requires c =
    let made = c.in_ok-entering.ensures.cells in
    record {
      pivot = record {
        grid = c.requires.grid;
        row = c.requires.row;
        count = made.count;
        not_zero = λ e. c.requires.pivot (sym (made.cells c.args.row c.requires.row) ∙ e);
      };
    }

pub returns-clause-pivoted : goal.returns-clause-pivoted
returns-clause-pivoted c =
    let g = c.args.self.now in
    let p = c.args.row in
    let j = c.args.column in
    let made = c.in_ok-entering.ensures.cells in
    let turn : Pivot = record { row = p; entering = c.in_ok-entering.entering } in
    let y = enters turn in
    let z : ℕ → Rational = λ i. cell_in g i j in
    ok_map c.fractions_pivoted.result (IsPivotOn g y p) (IsPivotOn g z p) (on_same g y z p c.requires.row c.requires.grid.size made.cells) c.fractions_pivoted.ensures.pivoted

pub returns-clause-refused : goal.returns-clause-refused
returns-clause-refused c =
    let g = c.args.self.now in
    let p = c.args.row in
    let j = c.args.column in
    let made = c.in_ok-entering.ensures.cells in
    let turn : Pivot = record { row = p; entering = c.in_ok-entering.entering } in
    let y = enters turn in
    let z : ℕ → Rational = λ i. cell_in g i j in
    err_map c.fractions_pivoted.result (IsRefusedAt (GridPlaces g y p)) (IsRefusedAt (GridPlaces g z p)) (refused_same g y z p c.requires.row c.requires.grid.size made.cells) c.fractions_pivoted.ensures.refused
