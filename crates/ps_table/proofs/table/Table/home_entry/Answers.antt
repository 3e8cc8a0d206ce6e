use Rattle.std.proofs.Common.{◌≡◌, ◌+◌, suc, ap, ◌∙◌, arith}
use Rattle.ps_table.specs.Tableau.{Tableau}
use Rattle.ps_table.specs.Grids.{cell_in, grid_of}
use Rattle.ps_table.proofs.TableEntries.{home_value}
use Rattle.ps_table.proofs.table.Table.home_entry.Goals as goal

pub returns : goal.returns
returns c =
    let one : 1 + c.args.home ≡ suc c.args.home = omega arith in
    record {
      value = home_value c.args.self.now c.self.inside.kept c.args.row (suc c.args.home) c.entry.result (c.self.invariant.grid ∙ ap (λ (s : Tableau). grid_of s) c.self.view_is)
          (omega (arith, c.requires.home)) (c.entry.ensures.value ∙ ap (cell_in c.self.inside.kept c.args.row) one);
    }
