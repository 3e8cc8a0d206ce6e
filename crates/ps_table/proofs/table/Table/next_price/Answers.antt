use Rattle.std.proofs.Common.{IfErr, rules}
use Rattle.ps_table.specs.Places.{HomePlaces, PricePlaces, WorldPlaces, of_multiplier, of_price, IsWideAt}
use Rattle.ps_table.proofs.Narrow.{wide_more}
use Rattle.ps_table.proofs.KeptPivots.{err_map}
use Rattle.ps_table.proofs.table.Table.next_price.Goals as goal

pub returns-clause-refused : goal.returns-clause-refused
returns-clause-refused c =
    let t = c.args.self.now in
    let costs = c.args.costs.now in
    let k = c.args.number in
    err_map c.price_with.result (IsWideAt (PricePlaces t costs k)) (IsWideAt (WorldPlaces t costs k)) (λ w. wide_more (PricePlaces t costs k) (WorldPlaces t costs k) w (λ o. of_price)) c.price_with.ensures.refused

pub returns-in_err-multiplier-clause-refused : goal.returns-in_err-multiplier-clause-refused
returns-in_err-multiplier-clause-refused c =
    let t = c.args.self.now in
    let costs = c.args.costs.now in
    let k = c.args.number in
    let m = c.args.m in
    let refused : IfErr c.from_residual.result (IsWideAt (HomePlaces t costs m)) = search rules in
    err_map c.from_residual.result (IsWideAt (HomePlaces t costs m)) (IsWideAt (WorldPlaces t costs k)) (λ w. wide_more (HomePlaces t costs m) (WorldPlaces t costs k) w (λ o. of_multiplier m c.requires.row)) refused
