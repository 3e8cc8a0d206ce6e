use Rattle.std.proofs.Common.{All, take}
use Rattle.ps_pb.specs.Limits.{IsLiteral}
use Rattle.ps_log.proofs.limits.are_literals.Given as goal

abbrev pub invariant-loop-lit : goal.invariant-loop-lit
invariant-loop-lit l = All IsLiteral (take l.lit-index l.lits)
