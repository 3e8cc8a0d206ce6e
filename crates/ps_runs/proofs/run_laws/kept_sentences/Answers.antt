use Rattle.ps_runs.proofs.Kept as kept
use Rattle.ps_runs.proofs.run_laws.kept_sentences.Goals as goal

pub returns : goal.returns
returns c = record {
  kept = record {
    parts = kept.parts-kept;
    rows = λ ks p. kept.rows-kept ks p.sentences;
    all = kept.parts-all;
    refuted = kept.refuted-kept;
  };
}
