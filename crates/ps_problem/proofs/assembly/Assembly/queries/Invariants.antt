use Rattle.std.proofs.Common.{◌≤◌, length}
use Rattle.ps_problem.specs.Making.{QueriesMade}
use Rattle.ps_problem.proofs.assembly.Assembly.queries.Given as goal

abbrev pub invariant-loop-i : goal.invariant-loop-i
invariant-loop-i l = (l.i ≤ length l.draft.items) × QueriesMade l.draft l.i l.self
