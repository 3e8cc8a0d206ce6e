use Rattle.ps_widening.proofs.CommonUnits.{IsUnitSoFar}
use Rattle.ps_widening.proofs.units.common_unit.Given as goal

abbrev pub invariant-loop-i : goal.invariant-loop-i
invariant-loop-i l = IsUnitSoFar l.rows l.i l.unit
