use Rattle.std.proofs.Common.{◌≡◌, ◌<◌, ℕ, [], get_or, pos}
use Rattle.ps_bland.proofs.tests.begin_with_one.Given as goal

abbrev pub invariant-loop-k : goal.invariant-loop-k
invariant-loop-k g l = (i : ℕ) → i < l.k → get_or (get_or l.worlds i []) 0 (pos 0) ≡ pos 1
