use Rattle.std.proofs.Common.{ap, ◌∙◌, arith}
use Rattle.ps_table.specs.Tableau.{Tableau}
use Rattle.ps_table.specs.Grids.{grid_of}
use Rattle.ps_table.proofs.TableEntries.{home_value}
use Rattle.ps_table.proofs.table.Table.value.Goals as goal

pub returns : goal.returns
returns c = record { value = home_value c.args.self.now c.self.inside.kept c.args.row 0 c.entry.result (c.self.invariant.grid ∙ ap (λ (s : Tableau). grid_of s) c.self.view_is) (omega arith) c.entry.ensures.value }
