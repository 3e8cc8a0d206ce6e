use Rattle.std.proofs.Common.{◌≡◌, ◌<◌, false, pos, ◌+ℤ◌, cond, length, sym, ap, ◌∙◌, arith}
use Rattle.std.proofs.lemmas.List.{get_or_default}
use Rattle.ps_meaning.specs.Formula.{Atom, is_true}
use Rattle.ps_valid.specs.Limits.{IsAmount}
use Rattle.ps_valid.specs.Valuations.{valued_entry}
use Rattle.ps_valid.proofs.Weights.{weight-more, goes_on}
use Rattle.ps_valid.proofs.truth.weight_of.Goals as goal

pub loop-valuation-preserved : goal.loop-valuation-preserved
loop-valuation-preserved c =
    let r = c.valuation-item.result in
    let f = Atom c.args.node in
    let more = weight-more valued_entry c.args.valued.now c.loop-valuation.valuation-index r f c.loop-valuation-test.true in
    let small : IsAmount r.weight = rw c.valuation-item.is (c.requires.valued.weights c.loop-valuation.valuation-index r c.loop-valuation-test.true) in
    let few : c.loop-valuation.valuation-index < 101 = omega (arith, c.requires.valued.few) in
    let within : c.args.node < length r.values.items = rw c.valuation-item.is (c.requires.node c.loop-valuation.valuation-index r c.loop-valuation-test.true) in
    let value : c.index.result.now ≡ is_true f r.values.items = c.index.ensures ∙ get_or_default r.values.items c.args.node c.index.result.now false within in
    let step = goes_on _ c.share-sum.result r.weight (is_true f r.values.items) c.loop-valuation.valuation-index c.loop-valuation.invariant.low c.loop-valuation.invariant.high few small.low small.high (rw (← value) c.share-sum.ensures) in
    record {
      so_far = step.sum ∙ ap (λ a. a +ℤ cond (is_true f r.values.items) r.weight (pos 0)) c.loop-valuation.invariant.so_far ∙ sym (rw (← c.valuation-item.is) at more);
      low = step.low;
      high = step.high;
    }
