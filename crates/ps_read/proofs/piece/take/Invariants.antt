use Rattle.std.proofs.Common.{length}
use Rattle.ps_read.proofs.Readers.{HasCome}
use Rattle.ps_read.proofs.piece.take.Given as goal

abbrev pub invariant-loop-left : goal.invariant-loop-left
invariant-loop-left l = record {
  come : HasCome l.piece l.left l.fn.reader l.reader;
}

abbrev pub decreases-loop-left : goal.decreases-loop-left
decreases-loop-left l = length l.left
