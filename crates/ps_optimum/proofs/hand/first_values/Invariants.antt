use Rattle.std.proofs.Common.{◌≡◌, take}
use Rattle.ps_pb.specs.Assignments.{values_of}
use Rattle.ps_optimum.proofs.hand.first_values.Given as goal

abbrev pub invariant-loop-i : goal.invariant-loop-i
invariant-loop-i l = l.world ≡ take l.i (values_of l.found)
