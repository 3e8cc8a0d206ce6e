use Rattle.std.proofs.Common.{◌≡◌, true, ap, ◌∙◌, rules, arith, to_z, of_z}
use mir.Syntax.{w128}
use Rattle.std.proofs.lemmas.Int.{ints}
use Rattle.ps_pb.specs.Assignments.{value_of, is_unset}
use Rattle.ps_pb.specs.Weights.{terms_of}
use Rattle.ps_pb.proofs.Searched.{forces_at}
use Rattle.ps_pb.proofs.propagation.forces.Goals as goal

pub returns-then-is_above : goal.returns-then-is_above
returns-then-is_above c =
    let normal = rw (← c.as_slice-term-items.ensures) at c.terms.ensures.normal in
    let unset : is_unset (value_of c.args.a.now c.args.lit) ≡ true = grind rules in
    let same : to_z w128 (of_z w128 c.slack-slack.result) ≡ c.slack-slack.result = omega (arith, ints) in (
      λ yes. forces_at c.args.c.now c.args.a.now c.args.lit _ c.as_slice-term-items.result.now c.loop-term.term-index c.term-item.result
          (ap terms_of c.as_slice-term-items.ensures ∙ c.terms.ensures.same) (same ∙ c.slack-slack.ensures) normal.positive unset c.loop-term-test.true c.term-item.is (c.if-is_above.ensures.0 yes),
      λ _. search rules,
    )
