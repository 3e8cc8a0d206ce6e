use Rattle.std.proofs.Common.{◌<◌, length, subst, sym, arith}
use Rattle.ps_whole.specs.Columns.{IsCellOf}
use Rattle.ps_table.specs.Grids.{IsCombined}
use Rattle.ps_table.proofs.KeptCells.{kept_is_whole}
use Rattle.ps_table.proofs.KeptPivots.{some_map}
use Rattle.ps_table.proofs.KeptWorlds.{whole_combined}
use Rattle.ps_table.proofs.kept.Kept.combined_whole.Goals as goal

pub cell_of-requires : goal.cell_of-requires
cell_of-requires c =
    let w = c.in-Whole.whole in
    let h = kept_is_whole c.self.inside.rows c.self.inside.cells w c.args.self.now c.self.invariant c.in-Whole.is c.self.view_is in
    record {
      row = subst (λ n. c.args.i < n) (sym h.rows) c.requires.i_in;
      homes = omega (arith, c.requires.column.count, h.columns);
    }

pub returns-in-Whole : goal.returns-in-Whole
returns-in-Whole c =
    let w = c.in-Whole.whole in
    let g = c.args.self.now in
    let es = c.args.entries.now in
    let h = kept_is_whole c.self.inside.rows c.self.inside.cells w g c.self.invariant c.in-Whole.is c.self.view_is in
    record {
      combined = some_map c.cell_of.result (IsCellOf w es c.args.i) (IsCombined g es c.args.number c.args.i)
          (λ x is. whole_combined w g es c.args.number h c.requires.column.count c.args.i c.requires.i_in x is) c.cell_of.ensures.cell;
    }
