use Rattle.std.proofs.Common.{◌<◌, ℕ}
use Rattle.ps_table.specs.Places.{HomePlaces, IsNarrow}
use Rattle.ps_bland.proofs.entering.try_multipliers.Given as goal

abbrev pub invariant-loop-row : goal.invariant-loop-row
invariant-loop-row l = (m : ℕ) → m < l.row → IsNarrow (HomePlaces l.table l.costs m)
