use Rattle.std.proofs.Common.{◌<◌, ◌≤ℤ◌, ℕ, get_or, pos}
use Rattle.ps_bland.proofs.tests.are_between.Given as goal

abbrev pub invariant-loop-k : goal.invariant-loop-k
invariant-loop-k l = record {
  low : (i : ℕ) → i < l.k → l.low ≤ℤ get_or l.costs i (pos 0);
  high : (i : ℕ) → i < l.k → get_or l.costs i (pos 0) ≤ℤ l.high;
}
