use Rattle.std.proofs.Common.{◌≡◌, take, map}
use Rattle.ps_pbcheck.specs.Followed.{lits_in}
use Rattle.ps_pbcheck.proofs.held.clauses_of.Given as goal

abbrev pub invariant-loop-constraint : goal.invariant-loop-constraint
invariant-loop-constraint l = l.clauses ≡ map lits_in (take l.constraint-index l.constraints)
