use Rattle.std.proofs.Common.{length, arith}
use Rattle.ps_table.specs.declared.col.Col.TheVariants as col
use Rattle.ps_table.specs.Tableau.{entry_at, basic_at}
use Rattle.ps_table.specs.Pricing.{cost_at}
use Rattle.ps_table.proofs.Narrow.{cost_narrow}
use Rattle.ps_table.proofs.table.Table.carried_whole.Goals as goal

pub returns-clause-narrow : goal.returns-clause-narrow
returns-clause-narrow c =
    cost_narrow (length c.args.self.now.kinds) (cost_at c.args.costs.now) (basic_at c.args.self.now) (entry_at c.args.self.now) (col.Home c.args.home)
    (λ i hi. c.loop-row.invariant.narrow i (omega (arith, c.loop-row-test.false, c.rows-row-end.ensures.value, hi)))
