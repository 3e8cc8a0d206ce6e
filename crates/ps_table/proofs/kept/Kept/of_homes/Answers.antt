use Rattle.std.proofs.Common.{◌*◌, ◌∙◌}
use Rattle.ps_table.specs.KeptCells.{entry_in}
use Rattle.ps_table.proofs.KeptCells.{list_length}
use Rattle.ps_table.proofs.KeptHomes.{homes_are_units}
use Rattle.ps_table.proofs.kept.Kept.of_homes.Goals as goal

pub returns-clause-count : goal.returns-clause-count
returns-clause-count c =
    let w = c.in_ok-whole.whole in
    list_length (w.width * w.rows) (entry_in w) ∙ (λ z. c.in_ok-whole.ensures.homes.width_is z * c.in_ok-whole.ensures.homes.rows_are z)

pub returns-clause-units : goal.returns-clause-units
returns-clause-units c = homes_are_units c.args.rows c.in_ok-whole.whole c.in_ok-whole.ensures.homes
