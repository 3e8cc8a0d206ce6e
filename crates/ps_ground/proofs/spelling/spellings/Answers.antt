use Rattle.std.proofs.Common.{ap, sym, subst, ◌∙◌, ◌++◌, ◌∷◌, [], length, get_or, ◌+◌, arith}
use Rattle.ps_first_order.specs.declared.part.Part.TheVariants as part
use Rattle.ps_ground.specs.Spellings.{AreSpelled, spelling_over}
use Rattle.ps_ground.proofs.Nestings.{spelled-more}
use Rattle.ps_ground.proofs.spelling.spellings.Goals as goal

pub loop-part-preserved : goal.loop-part-preserved
loop-part-preserved c =
    let p = c.args.parts.now in
    let i = c.loop-part.part-index in
    let ss = c.loop-part.spellings.items in
    let more = spelled-more p c.requires.sound i ss part.True (omega (arith, c.loop-part-test.true, ap length c.as_slice-part-items.ensures)) c.loop-part.invariant in
    let same = c.spelling_over-spelling.ensures
    ∙ ap (λ n. spelling_over n c.deref.result.now (get_or c.as_slice-part-items.result.now i part.True)) c.len-constants.ensures
    ∙ ap (λ ns. spelling_over (length p.constants) ns (get_or c.as_slice-part-items.result.now i part.True)) c.deref.ensures.value
    ∙ ap (λ qs. spelling_over (length p.constants) ss (get_or qs i part.True)) c.as_slice-part-items.ensures in
    subst (AreSpelled p (i + 1)) (sym (c.in_ok-push.ensures.items ∙ ap (λ n. ss ++ n ∷ []) same)) more
