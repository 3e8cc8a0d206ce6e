use Rattle.std.proofs.Common.{◌≡◌, map, take}
use Rattle.ps_widening.specs.Units.{scaled_row}
use Rattle.ps_widening.proofs.scaling.each_scaled.Given as goal

abbrev pub invariant-loop-row : goal.invariant-loop-row
invariant-loop-row l = l.scaled ≡ map (scaled_row l.fn.unit) (take l.row-index l.rows)
