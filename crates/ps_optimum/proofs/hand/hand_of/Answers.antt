use Rattle.std.proofs.Common.{◌≡◌, Bool, List, rules, arith, to_z, of_z, ap, ◌∙◌}
use mir.Syntax.{w128}
use Rattle.std.proofs.lemmas.Int.{ints}
use Rattle.ps_wcnf.specs.Costs.{cost, gain}
use Rattle.ps_optimum.proofs.Handed.{hand-is}
use Rattle.ps_optimum.proofs.hand.hand_of.Goals as goal

pub returns : goal.returns
returns c = λ least reaches.
    let w = c.weigh-cost.ensures in
    let values = c.as_slice.ensures in
    let soft = c.as_slice-2.ensures in
    let cost_same : to_z w128 (of_z w128 c.weigh-cost.result.0) ≡ c.weigh-cost.result.0 = search rules in
    let gain_same : to_z w128 (of_z w128 c.weigh-cost.result.1) ≡ c.weigh-cost.result.1 = search rules in
    hand-is c.args.text.now least c.args.found.now _ c.requires.weighed c.in_ok-assignment.ensures
    (cost_same ∙ w.cost ∙ ap (λ (v : List Bool). cost v c.as_slice-2.result.now) values ∙ ap (cost c.in_ok-assignment.assignment) soft)
    (gain_same ∙ w.gain ∙ ap (λ (v : List Bool). gain v c.as_slice-2.result.now) values ∙ ap (gain c.in_ok-assignment.assignment) soft)
    (omega (arith, ints, gain_same, w.low)) (omega (arith, ints, gain_same, w.high)) reaches
