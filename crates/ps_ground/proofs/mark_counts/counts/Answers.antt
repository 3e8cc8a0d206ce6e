use Rattle.std.proofs.Common.{ap, sym, subst, ◌∙◌, ◌++◌, ◌∷◌, [], length, get_or, ◌+◌, arith}
use Rattle.ps_first_order.specs.declared.part.Part.TheVariants as part
use Rattle.ps_ground.specs.GroundParts.{AreCounted, capped_over}
use Rattle.ps_ground.proofs.Counting.{counted-more}
use Rattle.ps_ground.proofs.mark_counts.counts.Goals as goal

pub loop-part-preserved : goal.loop-part-preserved
loop-part-preserved c =
    let p = c.args.parts.now in
    let i = c.loop-part.part-index in
    let counts = c.loop-part.counts.items in
    let more = counted-more p c.requires.sound i counts part.True (omega (arith, c.loop-part-test.true, ap length c.as_slice-part-items.ensures)) c.loop-part.invariant in
    let same = c.count_over-count.ensures
    ∙ ap (λ n. capped_over n c.deref.result.now (get_or c.as_slice-part-items.result.now i part.True)) c.len-constants.ensures
    ∙ ap (λ ns. capped_over (length p.constants) ns (get_or c.as_slice-part-items.result.now i part.True)) c.deref.ensures.value
    ∙ ap (λ qs. capped_over (length p.constants) counts (get_or qs i part.True)) c.as_slice-part-items.ensures in
    subst (AreCounted p (i + 1)) (sym (c.in_ok-push.ensures.items ∙ ap (λ n. counts ++ n ∷ []) same)) more
