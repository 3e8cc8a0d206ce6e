use Rattle.ps_table.proofs.KeptCells.{kept_is_grid}
use Rattle.ps_table.proofs.kept.Kept.rows.Goals as goal

pub returns-clause-grid : goal.returns-clause-grid
returns-clause-grid c = kept_is_grid c.self.inside.rows c.self.inside.cells c.args.self.now c.self.invariant c.self.view_is
