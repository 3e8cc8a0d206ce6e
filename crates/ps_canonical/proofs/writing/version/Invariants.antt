use Rattle.std.proofs.Common.{◌≡◌, drop}
use Rattle.ps_canonical.specs.Lines.{version_from}
use Rattle.ps_canonical.proofs.writing.version.Given as goal

abbrev pub invariant-loop-sentence : goal.invariant-loop-sentence
invariant-loop-sentence l = version_from l.sentences ≡ version_from (drop l.sentence-index l.sentences)
