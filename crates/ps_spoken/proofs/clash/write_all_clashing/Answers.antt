use Rattle.std.proofs.Common.{◌++◌, refl, ap, ◌∙◌}
use Rattle.ps_canonical.proofs.Laid.{lines-more, lines-all}
use Rattle.ps_spoken.specs.declared.clash.Clashing.{Clashing}
use Rattle.ps_spoken.specs.Clashes.{clashing_text, clash_texts}
use Rattle.ps_spoken.proofs.ClashLists.{clashing-push}
use Rattle.ps_spoken.proofs.clash.write_all_clashing.Goals as goal

pub loop-sentence-preserved : goal.loop-sentence-preserved
loop-sentence-preserved c =
    let p = c.args.problem.now in
    let text = clashing_text p c.args.lines.now in
    lines-more (clash_texts p c.args.lines.now) text (clashing-push p c.args.lines.now) c.args.clashing.now c.args.clashing.now refl
    c.loop-sentence.sentence-index c.sentence-item.result c.loop-sentence-test.true c.args.out.now.items c.loop-sentence.out.items c.write_clashing.new.out.items c.loop-sentence.invariant
    (c.in_ok-write_clashing.ensures ∙ ap (λ (x : Clashing). c.loop-sentence.out.items ++ text x) c.sentence-item.is)

pub returns : goal.returns
returns c =
    lines-all (clash_texts c.args.problem.now c.args.lines.now) c.args.clashing.now c.args.clashing.now refl
    c.loop-sentence.sentence-index c.loop-sentence-test.false c.args.out.now.items c.loop-sentence.out.items c.loop-sentence.invariant
