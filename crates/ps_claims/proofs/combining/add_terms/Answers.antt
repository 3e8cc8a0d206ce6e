use Rattle.std.proofs.Common.{ℕ, ℤ, pos, get_or, to_z, of_z}
use Rattle.std.specs.Int.{w128}
use Rattle.ps_claims.proofs.CombinationSums.{terms-none, terms-next, terms-all, product-back}
use Rattle.ps_claims.proofs.combining.add_terms.Goals as goal

pub loop-term-init : goal.loop-term-init
loop-term-init c = terms-none c.args.sum.now c.args.multiplier.now c.args.terms.now

pub loop-term-preserved : goal.loop-term-preserved
loop-term-preserved c =
    let ts = c.args.terms.now in
    let i = c.loop-term.term-index in
    let t : ℕ × ℤ = (0, pos 0) in
    let small = c.requires.terms i t c.loop-term-test.true in
    terms-next c.args.sum.now c.args.multiplier.now ts i c.loop-term.sum c.add_term.new.sum t (to_z w128 (of_z w128 c.times-weight.result))
    (product-back c.args.multiplier.now (get_or ts i t).1 c.times-weight.result small.number c.times-weight.ensures.size c.times-weight.ensures.value)
    c.in_ok-add_term.ensures c.loop-term-test.true c.loop-term.invariant

pub returns : goal.returns
returns c = terms-all c.args.sum.now c.args.multiplier.now c.args.terms.now c.loop-term.term-index c.loop-term.sum c.loop-term-test.false c.loop-term.invariant
