use Rattle.std.proofs.Common.{take}
use Rattle.ps_pb.specs.Assignments.{AreDifferent}
use Rattle.trials.proofs.forms.are_different.Given as goal

abbrev pub invariant-loop-i : goal.invariant-loop-i
invariant-loop-i l = AreDifferent (take l.i l.lits)
