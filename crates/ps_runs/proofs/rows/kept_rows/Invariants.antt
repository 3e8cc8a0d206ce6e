use Rattle.std.proofs.Common.{◌≡◌, ◌++◌, drop}
use Rattle.ps_problem.specs.Rows.{rows_in}
use Rattle.ps_runs.specs.Kept.{kept_of}
use Rattle.ps_runs.proofs.rows.kept_rows.Given as goal

abbrev pub invariant-loop-i : goal.invariant-loop-i
invariant-loop-i l = l.rows ++ rows_in (kept_of (drop l.i l.kept) (drop l.i l.sentences)) ≡ rows_in (kept_of l.kept l.sentences)
