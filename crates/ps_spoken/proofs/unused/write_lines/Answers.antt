use Rattle.std.proofs.Common.{◌++◌, get_or, refl, ap, ◌∙◌}
use Rattle.ps_canonical.proofs.Laid.{lines-more, lines-all}
use Rattle.ps_spoken.specs.Unused.{unused_line, unused_lines}
use Rattle.ps_spoken.proofs.Beneath.{unused-push}
use Rattle.ps_spoken.proofs.unused.write_lines.Goals as goal

pub loop-sentence-preserved : goal.loop-sentence-preserved
loop-sentence-preserved c =
    let p = c.args.problem.now in
    let text = unused_line p c.args.lines.now in
    lines-more (unused_lines p c.args.lines.now) text (unused-push p c.args.lines.now) c.args.sentences.now c.args.sentences.now refl
    c.loop-sentence.sentence-index 0 c.loop-sentence-test.true c.args.out.now.items c.loop-sentence.out.items c.write_line.new.out.items c.loop-sentence.invariant
    c.in_ok-write_line.ensures

pub returns : goal.returns
returns c =
    lines-all (unused_lines c.args.problem.now c.args.lines.now) c.args.sentences.now c.args.sentences.now refl
    c.loop-sentence.sentence-index c.loop-sentence-test.false c.args.out.now.items c.loop-sentence.out.items c.loop-sentence.invariant
