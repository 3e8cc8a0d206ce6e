use Rattle.ps_table.specs.Places.{PricePlaces, at_price_plus}
use Rattle.ps_table.proofs.Columns.{refused_at}
use Rattle.ps_table.proofs.table.Table.price_with.Goals as goal

pub returns-clause-refused : goal.returns-clause-refused
returns-clause-refused c =
    refused_at (PricePlaces c.args.self.now c.args.costs.now c.args.number) c.plus_at.result _ _ _ _ _ _
    c.requires.sum c.in_ok-product.ensures.value c.plus_at.ensures.operands c.plus_at.ensures.wide.0
    (at_price_plus c.args.m c.requires.row)
