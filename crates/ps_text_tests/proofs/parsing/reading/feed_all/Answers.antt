use Rattle.ps_text_tests.proofs.parsing.reading.feed_all.Goals as goal

pub loop-k-preserved : goal.loop-k-preserved
loop-k-preserved c = record {
  parsed = c.in_ok-feed.ensures.derivation;
  counts = c.in_ok-feed.ensures.counts.counts c.loop-k.k c.loop-k.invariant.counts;
  short = c.loop-k.invariant.short;
}
