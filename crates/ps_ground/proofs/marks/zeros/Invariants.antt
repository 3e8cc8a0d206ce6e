use Rattle.std.proofs.Common.{◌≡◌, replicate}
use Rattle.ps_ground.proofs.marks.zeros.Given as goal

abbrev pub invariant-loop-i : goal.invariant-loop-i
invariant-loop-i l = l.numbers.items ≡ replicate l.i 0
