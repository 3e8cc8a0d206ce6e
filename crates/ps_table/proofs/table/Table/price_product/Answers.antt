use Rattle.std.proofs.Common.{◌≡◌, ap, ◌∙◌, rules}
use Rattle.ps_table.specs.Tableau.{entries_of, world_entry}
use Rattle.ps_table.specs.Places.{PricePlaces, at_price_times}
use Rattle.ps_table.proofs.Columns.{refused_at}
use Rattle.ps_table.proofs.table.Table.price_product.Goals as goal

pub returns-clause-refused : goal.returns-clause-refused
returns-clause-refused c =
    let t = c.args.self.now in
    let e : c.new.result ≡ world_entry c.world.result.now c.args.m = search rules in
    refused_at (PricePlaces t c.args.costs.now c.args.number) c.times_at.result _ _ _ _ _ _
    c.requires.multiplier (e ∙ ap (λ es. world_entry es c.args.m) c.world.ensures.entries) c.times_at.ensures.operands c.times_at.ensures.wide.0
    (at_price_times c.args.m c.requires.row)
