use Rattle.ps_table.specs.Places.{HomePlaces, at_cost}
use Rattle.ps_table.proofs.Columns.{refused_at}
use Rattle.ps_table.proofs.table.Table.sum_with.Goals as goal

pub returns-clause-refused : goal.returns-clause-refused
returns-clause-refused c =
    refused_at (HomePlaces c.args.self.now c.args.costs.now c.args.home) c.plus_at.result _ _ _ _ _ _
    c.requires.sum c.part.ensures.value c.plus_at.ensures.operands c.plus_at.ensures.wide.0
    (at_cost c.args.row c.requires.row)
