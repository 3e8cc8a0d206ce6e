use Rattle.std.proofs.Common.{◌≡◌, ◌∙◌, ap, length, arith}
use Rattle.ps_meaning.proofs.Field.{zero_is_fraction}
use Rattle.ps_table.specs.Prices.{price_to}
use Rattle.ps_table.proofs.Narrow.{price_narrow, world_narrow}
use Rattle.ps_table.proofs.TableEntries.{price_is}
use Rattle.ps_table.proofs.table.Table.world_carried.Goals as goal

pub loop-m-init : goal.loop-m-init
loop-m-init c = record { value = c.new-sum.ensures.value ∙ zero_is_fraction; narrow = λ k l. omega (arith, l); multipliers = λ k l. omega (arith, l) }

pub returns-clause-value : goal.returns-clause-value
returns-clause-value c =
    let t = c.args.self.now in
    let costs = c.args.costs.now in
    let k = c.args.number in
    let all : c.loop-m.m ≡ length t.kinds = omega (arith, c.loop-m-test.false, c.loop-m.auto, c.rows-m-end.ensures.value) in
    c.loop-m.invariant.value ∙ ap (price_to t costs k) all ∙ price_is t costs k c.requires.world.0

pub returns-clause-narrow : goal.returns-clause-narrow
returns-clause-narrow c =
    let t = c.args.self.now in
    let costs = c.args.costs.now in
    let k = c.args.number in
    let all : c.loop-m.m ≡ length t.kinds = omega (arith, c.loop-m-test.false, c.loop-m.auto, c.rows-m-end.ensures.value) in
    world_narrow t costs k (λ m l. c.loop-m.invariant.multipliers m (omega (arith, all, l)))
    (price_narrow t costs k (λ m l. c.loop-m.invariant.narrow m (omega (arith, all, l))))
