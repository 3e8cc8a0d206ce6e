use Rattle.std.proofs.Common.{◌≤◌, ◌^◌}
use Rattle.ps_lifting.proofs.solving.common_denominator.Given as goal

abbrev pub invariant-loop-x : goal.invariant-loop-x
invariant-loop-x l = l.denominator ≤ 2 ^ 90
