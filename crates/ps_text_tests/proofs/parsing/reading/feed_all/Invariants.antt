use Rattle.std.proofs.Common.{◌≤◌, length}
use Rattle.ps_read.specs.Derivations.{IsParsed}
use Rattle.ps_read.specs.Taking.{CountsAtMost}
use Rattle.ps_read.specs.Kept.{machine_of}
use Rattle.ps_text_tests.proofs.parsing.reading.feed_all.Given as goal

abbrev pub invariant-loop-k : goal.invariant-loop-k
invariant-loop-k l = record {
  parsed : IsParsed (machine_of l.parser);
  counts : CountsAtMost l.k (machine_of l.parser);
  short : length l.text ≤ 1000;
}
