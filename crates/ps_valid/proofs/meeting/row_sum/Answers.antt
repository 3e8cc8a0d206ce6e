use Rattle.std.proofs.Common.{ℕ, ℤ, pos, get_or, ap, to_z, ◌*ℤ◌, ◌∙◌}
use Rattle.std.specs.Int.{w128}
use Rattle.ps_valid.specs.Valuations.{valued_entries}
use Rattle.ps_valid.proofs.RowSums.{product-is, product-size, sum-begun, number-small, sum-fits, sum-machine}
use Rattle.ps_valid.proofs.meeting.row_sum.Goals as goal

pub loop-term-init : goal.loop-term-init
loop-term-init c = sum-begun (valued_entries c.args.valued.now) c.args.terms.now c.args.base c.args.whole c.times-sum.result c.requires.numbers c.requires.whole.low c.requires.whole.high c.times-sum.ensures

pub overflow_add-sum : goal.overflow_add-sum
overflow_add-sum c =
    let ts = c.args.terms.now in
    let i = c.loop-term.term-index in
    let t : ℕ × ℤ = (0, pos 0) in
    let k = (get_or ts i t).1 in
    let p = c.times-sum-in-loop-term.result in
    let is = product-is k c.weight_of.result p (number-small ts i t c.args.base c.loop-term-test.true c.requires.numbers) c.weight_of.ensures.low c.weight_of.ensures.high c.times-sum-in-loop-term.ensures in
    sum-fits (valued_entries c.args.valued.now) ts i _ (to_z w128 c.loop-term.sum-bits) p t c.loop-term-test.true (is ∙ ap (λ z. k *ℤ z) c.weight_of.ensures.weight)
    (product-size k c.weight_of.result p c.weight_of.ensures.low c.weight_of.ensures.high is) c.loop-term.invariant

pub loop-term-preserved : goal.loop-term-preserved
loop-term-preserved c =
    let ts = c.args.terms.now in
    let i = c.loop-term.term-index in
    let t : ℕ × ℤ = (0, pos 0) in
    let k = (get_or ts i t).1 in
    let p = c.times-sum-in-loop-term.result in
    let is = product-is k c.weight_of.result p (number-small ts i t c.args.base c.loop-term-test.true c.requires.numbers) c.weight_of.ensures.low c.weight_of.ensures.high c.times-sum-in-loop-term.ensures in
    sum-machine (valued_entries c.args.valued.now) ts i _ (to_z w128 c.loop-term.sum-bits) p t c.loop-term-test.true (is ∙ ap (λ z. k *ℤ z) c.weight_of.ensures.weight)
    (product-size k c.weight_of.result p c.weight_of.ensures.low c.weight_of.ensures.high is) c.loop-term.invariant
