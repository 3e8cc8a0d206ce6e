use Rattle.std.proofs.Common.{take}
use Rattle.std.specs.List.{AllZip}
use Rattle.ps_lifting.specs.Systems.{Meets}
use Rattle.ps_lifting.proofs.checking.solves.Given as goal

abbrev pub invariant-loop-i : goal.invariant-loop-i
invariant-loop-i l = AllZip (Meets l.x l.denominator) (take l.i l.rows) (take l.i l.right)
