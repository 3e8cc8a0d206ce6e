use Rattle.std.proofs.Common.{◌≡◌, length}
use Rattle.ps_answer_tests.proofs.explain.chosen.Given as goal

abbrev pub invariant-loop : goal.invariant-loop
invariant-loop l = length l.kept ≡ l.counter
