use Rattle.ps_sat.specs.Keeping.{AreIdsFrom}
use Rattle.ps_sat.proofs.kept.ids_to.Given as goal

abbrev pub invariant-loop-place : goal.invariant-loop-place
invariant-loop-place l = AreIdsFrom l.clauses l.place l.ids.items
