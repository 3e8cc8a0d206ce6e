use Rattle.std.proofs.Common.{◌≡◌, ◌<◌, All}
use Rattle.ps_pb.specs.Assignments.{place}
use Rattle.ps_pb.specs.Weights.{size_sum}
use Rattle.ps_pricing.proofs.alone.wishes_of.Given as goal

abbrev pub invariant-loop-row : goal.invariant-loop-row
invariant-loop-row l = record {
  inside : All (λ t. place t.0 < l.variables) l.wishes.items;
  size : size_sum l.wishes.items ≡ l.row-index;
}
