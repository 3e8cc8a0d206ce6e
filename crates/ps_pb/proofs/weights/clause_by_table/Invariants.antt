use Rattle.std.proofs.Common.{◌≡◌, take}
use Rattle.ps_pb.specs.Weights.{each_once}
use Rattle.ps_pb.proofs.weights.clause_by_table.Given as goal

abbrev pub invariant-loop-lit : goal.invariant-loop-lit
invariant-loop-lit l = l.weights.items ≡ each_once (take l.lit-index l.lits)
