use Rattle.ps_widening.proofs.ScaledRows.{is-common}
use Rattle.ps_widening.proofs.scaling.scaled_rows.Goals as goal

pub returns : goal.returns
returns c =
    is-common c.args.problem.now c.in-Ok.unit c.rows-rows.result.now c.in_ok-rows-in-Ok.rows c.rows-rows.ensures.rows c.requires.scaled c.in-Ok.ensures.tells
    c.in-Ok.ensures.some c.in-Ok.ensures.small c.rows-rows.ensures.sound c.rows-rows.ensures.few c.in_ok-rows-in-Ok.ensures
