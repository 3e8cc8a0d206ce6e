use Rattle.ps_generation.proofs.Narrow.{model_narrow}
use Rattle.ps_generation.proofs.weights.weights_of.Goals as goal

pub returns-clause-narrow : goal.returns-clause-narrow
returns-clause-narrow c =
    model_narrow c.args.table.now c.in_ok-multiple.multiple c.in_ok-rows.rows c.in_ok-total.total c.requires c.in_ok-multiple.ensures.value c.in_ok-rows.ensures.rows
    c.in_ok-total.ensures.value c.in_ok-total.ensures.within
