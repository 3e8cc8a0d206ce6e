use Rattle.std.proofs.Common.{◌≤◌, length}
use Rattle.ps_problem.specs.Making.{SentencesMade}
use Rattle.ps_problem.proofs.assembly.Assembly.sentences.Given as goal

abbrev pub invariant-loop-i : goal.invariant-loop-i
invariant-loop-i l = (l.i ≤ length l.draft.items) × SentencesMade l.draft l.i l.self
