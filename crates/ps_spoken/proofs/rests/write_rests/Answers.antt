use Rattle.std.proofs.Common.{◌++◌, refl, ap, ◌∙◌}
use Rattle.ps_canonical.proofs.Laid.{lines-more, lines-all}
use Rattle.ps_spoken.specs.declared.clash.Clashing.{Clashing}
use Rattle.ps_spoken.specs.Clashes.{rest_text, rest_texts}
use Rattle.ps_spoken.proofs.ClashLists.{rest-push}
use Rattle.ps_spoken.proofs.rests.write_rests.Goals as goal

pub loop-sentence-preserved : goal.loop-sentence-preserved
loop-sentence-preserved c =
    lines-more rest_texts rest_text rest-push c.args.clashing.now c.args.clashing.now refl
    c.loop-sentence.sentence-index c.sentence-item.result c.loop-sentence-test.true c.args.out.now.items c.loop-sentence.out.items c.write_rest.new.out.items c.loop-sentence.invariant
    (c.in_ok-write_rest.ensures ∙ ap (λ (x : Clashing). c.loop-sentence.out.items ++ rest_text x) c.sentence-item.is)

pub returns : goal.returns
returns c =
    lines-all rest_texts c.args.clashing.now c.args.clashing.now refl
    c.loop-sentence.sentence-index c.loop-sentence-test.false c.args.out.now.items c.loop-sentence.out.items c.loop-sentence.invariant
