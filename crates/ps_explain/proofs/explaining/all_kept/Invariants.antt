use Rattle.std.proofs.Common.{◌≡◌, length}
use Rattle.ps_runs.specs.Kept.{AreAllKept}
use Rattle.ps_explain.proofs.explaining.all_kept.Given as goal

abbrev pub invariant-loop : goal.invariant-loop
invariant-loop l = record {
  count : length l.kept ≡ l.counter;
  all : AreAllKept l.kept;
}
