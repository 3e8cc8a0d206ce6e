use Rattle.std.proofs.Common.{ℕ, ◌<◌, ◌≤ℤ◌, get_or, pos, negsuc}
use Rattle.ps_solver_tests.proofs.tables.are_small.Given as goal

abbrev pub invariant-loop-k : goal.invariant-loop-k
invariant-loop-k l = record {
  low : (i : ℕ) → i < l.k → negsuc 0 ≤ℤ get_or l.costs i (pos 0);
  high : (i : ℕ) → i < l.k → get_or l.costs i (pos 0) ≤ℤ pos 1;
}
