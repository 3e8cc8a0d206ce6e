use Rattle.std.proofs.Common.{◌≡◌, pos, ◌+ℤ◌, ◌≤ℤ◌, drop}
use Rattle.ps_pb.specs.Constraints.{sum_where, is_open}
use Rattle.ps_pb.specs.Weights.{terms_of}
use Rattle.ps_pb.proofs.propagation.slack.Given as goal

abbrev pub invariant-loop-term : goal.invariant-loop-term
invariant-loop-term l = record {
  so_far : (l.sum +ℤ pos (sum_where (is_open l.a) (terms_of (drop l.term-index l.term-items)))) ≡ pos (sum_where (is_open l.a) (terms_of l.term-items));
  from : pos 0 ≤ℤ l.sum;
}
