use Rattle.std.proofs.Common.{◌≡◌, length, IfSome, ◌∙◌, sym, ap}
use Rattle.ps_table.specs.declared.col.Col.TheVariants as col
use Rattle.ps_table.specs.Tableau.{rows_of}
use Rattle.ps_table.specs.Pricing.{carried_of}
use Rattle.ps_table.specs.Places.{PricePlaces, IsNarrow}
use Rattle.ps_table.specs.Prices.{IsWholePrice}
use Rattle.ps_table.proofs.Narrow.{price_narrow}
use Rattle.ps_table.proofs.TableEntries.{price_is}
use Rattle.ps_table.proofs.KeptPivots.{some_map}
use Rattle.ps_table.proofs.WholePrices.{price_value, price_parts}
use Rattle.ps_table.proofs.table.Table.whole_price.Goals as goal

pub whole_price-requires : goal.whole_price-requires
whole_price-requires c = record { count = c.world.ensures.column.count ∙ sym c.requires.multipliers.count }

pub returns : goal.returns
returns c =
    let t = c.args.self.now in
    let costs = c.args.costs.now in
    let k = c.args.number in
    let ms = c.args.multipliers.now in
    let es = c.world.result.now in
    let r = c.whole_price.result in
    let count : length es ≡ rows_of t = c.world.ensures.column.count in
    record {
      value = some_map r (IsWholePrice ms es) (λ x. x ≡ carried_of t costs (col.World k))
          (λ x h. price_value t costs k ms es x c.requires.multipliers c.world.ensures.entries count h ∙ price_is t costs k c.requires.world.0) c.whole_price.ensures.price;
      narrow = some_map r (IsWholePrice ms es) (λ _. IsNarrow (PricePlaces t costs k))
          (λ x h. price_narrow t costs k (price_parts t costs k ms es x c.requires.multipliers c.world.ensures.entries count h)) c.whole_price.ensures.price;
    }
