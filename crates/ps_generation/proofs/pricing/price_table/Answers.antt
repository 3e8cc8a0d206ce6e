use Rattle.std.proofs.Common.{rules, ◌≡◌, ap}
use Rattle.ps_table.specs.Places.{IsRefusedAt}
use Rattle.ps_generation.specs.Multiples.{DualPlaces}
use Rattle.ps_pricing.specs.Pricings.{IsFound, IsRefutedBy, IsSpent}
use Rattle.ps_generation.specs.Rounds.{pricing_subject_of}
use Rattle.ps_generation.proofs.Priced.{dual_wide, found_priced, refuted_end, spent_end}
use Rattle.ps_generation.proofs.pricing.price_table.Goals as goal

pub returns-in-Err-clause-end : goal.returns-in-Err-clause-end
returns-in-Err-clause-end c =
    let wide : IsRefusedAt (DualPlaces c.args.state.now.table c.args.costs.now) c.in-Err.refused = search rules in
    dual_wide c.args.kind c.args.setting.now c.args.costs.now c.args.state.now c.requires.phase c.requires.rests c.in-Err.refused c.in_ok-end_at-in-Err.field-0 wide c.in_ok-end_at-in-Err.ensures.end

pub enter-requires-clause-priced : goal.enter-requires-clause-priced
enter-requires-clause-priced c =
    let found : IsFound c.args.kind (pricing_subject_of c.args.setting.now) c.in-Ok.dual c.in-Found.world = search rules in
    found_priced c.args.kind c.args.setting.now c.args.costs.now c.args.state.now c.requires.phase c.requires.rests c.in-Ok.dual c.in-Ok.ensures.numbers
    c.price.ensures.parts c.requires.asked c.in-Found.world found

pub returns-in-Refuted-clause-end : goal.returns-in-Refuted-clause-end
returns-in-Refuted-clause-end c =
    let refuted : IsRefutedBy c.args.kind c.args.setting.now.subject c.in-Ok.dual c.in-Refuted.dual = search rules in
    refuted_end c.args.kind c.args.setting.now c.args.costs.now c.args.state.now c.requires.phase c.requires.rests c.in-Ok.dual c.in-Ok.ensures.numbers
    c.price.ensures.parts c.requires.asked c.in-Refuted.dual refuted

pub returns-in-Spent-clause-end : goal.returns-in-Spent-clause-end
returns-in-Spent-clause-end c =
    let spent : IsSpent c.args.kind (pricing_subject_of c.args.setting.now) c.in-Ok.dual c.in-Spent.goal c.in-Spent.steps = search rules in
    let limit : c.limits.result.conflicts ≡ c.args.setting.now.limits.conflicts = ap (λ l. l.conflicts) c.limits.ensures.value in
    rw limit (spent_end c.args.kind c.args.setting.now c.args.costs.now c.args.state.now c.requires.phase c.requires.rests c.in-Ok.dual c.in-Ok.ensures.numbers
    c.price.ensures.parts c.requires.asked c.in-Spent.goal c.in-Spent.steps spent)
