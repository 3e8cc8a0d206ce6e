use Rattle.std.proofs.Common.{◌≡◌, ◌+◌, drop}
use Rattle.ps_widening.specs.Units.{first_wide}
use Rattle.ps_widening.proofs.units.first_wide.Given as goal

abbrev pub invariant-loop-i : goal.invariant-loop-i
invariant-loop-i l = first_wide (l.i + 1) l.fn.unit (drop l.i l.rows) ≡ first_wide 1 l.fn.unit l.rows
