use Rattle.std.proofs.Common.{take}
use Rattle.ps_valid.specs.DualTests.{HaveSignsAt}
use Rattle.ps_valid.proofs.signs.first_wrong_sign.Given as goal

abbrev pub invariant-loop-i : goal.invariant-loop-i
invariant-loop-i l = HaveSignsAt (take l.i l.rows) (take l.i l.multipliers)
