use Rattle.std.proofs.Common.{◌≡◌, ◌+◌, ◌*◌, ◌<◌}
use Rattle.std.specs.Ordering.{nat_cmp}
use Rattle.ps_frac.proofs.comparing.cmp_sizes.Given as goal

abbrev pub invariant-loop-whole : goal.invariant-loop-whole
invariant-loop-whole l = record {
  left_positive : 0 < l.left_under;
  right_positive : 0 < l.right_under;
  same : nat_cmp (l.left * l.right_under) (l.right * l.left_under) ≡ nat_cmp (l.fn.a * l.fn.d) (l.fn.c * l.fn.b);
}

abbrev pub decreases-loop-whole : goal.decreases-loop-whole
decreases-loop-whole l = l.left_under + l.right_under
