use Rattle.std.proofs.Common.{length}
use Rattle.ps_table.specs.Tableau.{number_in}
use Rattle.ps_meaning.proofs.Order.{above_not_zero}
use Rattle.ps_bland.proofs.Steps.{first_least}
use Rattle.ps_bland.proofs.ratios.least_row.Goals as goal

pub loop-row-init : goal.loop-row-init
loop-row-init c = record {
  best = first_least c.args.table.now (number_in (length c.args.table.now.kinds) c.args.col) c.in_ok-first.first c.in_ok-first.ensures.rising c.in_ok-first.ensures.first;
  best_ratio = c.in_ok-ratio.ensures.value;
}

pub returns-clause-pivot : goal.returns-clause-pivot
returns-clause-pivot c = above_not_zero _ c.loop-row.invariant.best.rising.above
