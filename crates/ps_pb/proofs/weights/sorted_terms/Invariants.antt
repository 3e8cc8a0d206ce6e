use Rattle.std.proofs.Common.{◌≡◌, take}
use Rattle.ps_pb.specs.Weights.{each_once}
use Rattle.ps_pb.proofs.weights.sorted_terms.Given as goal

abbrev pub invariant-loop-lit : goal.invariant-loop-lit
invariant-loop-lit l = l.terms ≡ each_once (take l.lit-index l.lits)
