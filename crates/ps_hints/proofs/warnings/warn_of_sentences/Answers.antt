use Rattle.std.proofs.Common.{sym, subst, ◌∙◌}
use Rattle.ps_problem.specs.Problems.{IsSentence}
use Rattle.ps_canonical.proofs.Laid.{sentence-there}
use Rattle.ps_hints.proofs.warnings.warn_of_sentences.Goals as goal

pub warn_of_sentence-requires : goal.warn_of_sentence-requires
warn_of_sentence-requires c = subst (IsSentence c.args.problem.now.nodes) (sym c.sentence-item.is)
    (sentence-there c.args.problem.now c.sentences.ensures.sound.parts c.as_slice-sentence-items.result.now
    (c.as_slice-sentence-items.ensures ∙ c.sentences.ensures.sentences) c.loop-index.index c.sentence-item.result c.loop-index-test.true)
