use Rattle.std.proofs.Common.{◌++◌, sym, ap, subst, ◌∙◌}
use Rattle.ps_problem.specs.declared.sentence.Sentence.{Sentence}
use Rattle.ps_problem.specs.Problems.{IsSentence}
use Rattle.ps_canonical.specs.Lines.{sentence_line, sentence_lines}
use Rattle.ps_canonical.proofs.Laid.{sentence-there, sentences-push, lines-more, lines-all}
use Rattle.ps_canonical.proofs.writing.sentences.Goals as goal

pub write_sentence-requires : goal.write_sentence-requires
write_sentence-requires c = subst (IsSentence c.args.problem.now.nodes) (sym c.sentence-item.is)
    (sentence-there c.args.problem.now c.sentences.ensures.sound.parts c.as_slice-sentence-items.result.now
    (c.as_slice-sentence-items.ensures ∙ c.sentences.ensures.sentences) c.loop-sentence.sentence-index c.sentence-item.result c.loop-sentence-test.true)

pub loop-sentence-preserved : goal.loop-sentence-preserved
loop-sentence-preserved c =
    let p = c.args.problem.now in
    lines-more (sentence_lines p) (sentence_line p) (sentences-push p) c.as_slice-sentence-items.result.now p.sentences (c.as_slice-sentence-items.ensures ∙ c.sentences.ensures.sentences)
    c.loop-sentence.sentence-index c.sentence-item.result c.loop-sentence-test.true c.args.out.now.items c.loop-sentence.out.items c.write_sentence.new.out.items c.loop-sentence.invariant
    (c.in_ok-write_sentence.ensures ∙ ap (λ (x : Sentence). c.loop-sentence.out.items ++ sentence_line p x) c.sentence-item.is)

pub returns : goal.returns
returns c =
    let p = c.args.problem.now in
    lines-all (sentence_lines p) c.as_slice-sentence-items.result.now p.sentences (c.as_slice-sentence-items.ensures ∙ c.sentences.ensures.sentences)
    c.loop-sentence.sentence-index c.loop-sentence-test.false c.args.out.now.items c.loop-sentence.out.items c.loop-sentence.invariant
