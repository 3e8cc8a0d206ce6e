use Rattle.std.proofs.Common.{◌≡◌}
use Rattle.ps_clause.proofs.Assigned.{set_below}
use Rattle.ps_clause.proofs.extension.set_all.Given as goal

abbrev pub invariant-loop-place : goal.invariant-loop-place
invariant-loop-place l = l.assignment ≡ set_below l.place l.truths
