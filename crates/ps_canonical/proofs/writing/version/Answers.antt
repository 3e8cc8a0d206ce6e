use Rattle.ps_canonical.proofs.Laid.{version-linear, version-plain, version-end}
use Rattle.ps_canonical.proofs.writing.version.Goals as goal

pub returns-in-Linear : goal.returns-in-Linear
returns-in-Linear c = version-linear c.args.sentences.now c.loop-sentence.sentence-index c.sentence-item.result c.sentence-item.is c.loop-sentence-test.true c.loop-sentence.invariant _ c.in-Linear.is

pub loop-sentence-preserved : goal.loop-sentence-preserved
loop-sentence-preserved c = version-plain c.args.sentences.now c.loop-sentence.sentence-index c.sentence-item.result c.sentence-item.is c.loop-sentence-test.true c.loop-sentence.invariant _ _ c.in-Plain.is

pub returns : goal.returns
returns c = version-end c.args.sentences.now c.loop-sentence.sentence-index c.loop-sentence-test.false c.loop-sentence.invariant
