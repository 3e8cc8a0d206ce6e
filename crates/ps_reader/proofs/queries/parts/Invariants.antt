use Rattle.std.proofs.Common.{◌-◌}
use Rattle.ps_reader.proofs.Whole.{PartsSoFar}
use Rattle.ps_reader.proofs.queries.parts.Given as goal

abbrev pub invariant-loop-parts : goal.invariant-loop-parts
invariant-loop-parts l = PartsSoFar l.fn.lines l.lines l.parts l.number

abbrev pub decreases-loop-parts : goal.decreases-loop-parts
decreases-loop-parts l = 17 - l.number
