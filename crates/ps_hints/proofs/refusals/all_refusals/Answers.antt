use Rattle.std.proofs.Common.{subst}
use Rattle.std.specs.Prelude.{IfSome}
use Rattle.ps_hints.specs.Refusals.{AreBlanked, IsRefusedSo}
use Rattle.ps_hints.proofs.Blanks.{first_stays, further, told_more}
use Rattle.ps_hints.proofs.refusals.all_refusals.Goals as goal

pub loop-turn-preserved : goal.loop-turn-preserved
loop-turn-preserved c =
    let bytes = c.args.bytes.now in
    let text = c.in_ok-text-2.text.items in
    let refusal = c.in-Some-2.refusal in
    let left = further bytes c.loop-turn.text.items text c.loop-turn.invariant.left (subst (λ t. AreBlanked t text) c.deref-in-loop-turn.ensures.value c.in_ok-text-2.ensures) in
    let refused = subst (λ t. IsRefusedSo t refusal) c.deref-in-loop-turn-2.ensures.value
    (subst (λ o. IfSome o (λ r. IsRefusedSo c.deref-in-loop-turn-2.result.now r)) c.in-Some-2.is c.in_ok-refusal.ensures) in record {
      first = rw c.in_ok-push-2.ensures.items (first_stays c.loop-turn.told.items c.args.first refusal c.loop-turn.invariant.first);
      told = rw c.in_ok-push-2.ensures.items (told_more bytes text c.loop-turn.told.items refusal c.loop-turn.invariant.told left refused);
      left = left;
    }
