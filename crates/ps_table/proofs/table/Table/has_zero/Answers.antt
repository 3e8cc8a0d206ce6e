use Rattle.std.proofs.Common.{◌≡◌, ◌+◌, suc, sym, ap, ◌∙◌, arith}
use Rattle.ps_table.specs.Tableau.{Tableau}
use Rattle.ps_table.specs.Grids.{GridCells, cell_in, grid_of}
use Rattle.ps_table.proofs.TableEntries.{home_value}
use Rattle.ps_table.proofs.table.Table.has_zero.Goals as goal

pub returns : goal.returns
returns c =
    let g = c.self.inside.kept in
    let one : 1 + c.args.home ≡ suc c.args.home = omega arith in
    record {
      zero = λ yes.
          sym (home_value c.args.self.now g c.args.row (suc c.args.home) (cell_in g c.args.row (1 + c.args.home)) (c.self.invariant.grid ∙ ap (λ (s : Tableau). grid_of s) c.self.view_is)
          (omega (arith, c.requires.home)) (ap (cell_in g c.args.row) one)) ∙ c.is_zero.ensures.zero yes;
    }
