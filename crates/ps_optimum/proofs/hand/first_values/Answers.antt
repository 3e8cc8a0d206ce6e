use Rattle.std.proofs.Common.{false, arith, ap, ◌∙◌}
use Rattle.std.specs.Option.{unwrap_or}
use Rattle.ps_optimum.proofs.Handed.{values-more}
use Rattle.ps_optimum.proofs.hand.first_values.Goals as goal

pub loop-i-preserved : goal.loop-i-preserved
loop-i-preserved c =
    values-more c.args.found.now c.loop-i.i c.loop-i.world c.push.new.self c.unwrap_or.result (omega (arith, c.loop-i-test.true, c.requires)) c.loop-i.invariant
    (c.unwrap_or.ensures ∙ ap (λ o. unwrap_or o false) c.value.ensures) c.in_ok-push.ensures.ok
