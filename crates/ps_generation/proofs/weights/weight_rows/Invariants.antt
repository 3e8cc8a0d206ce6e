use Rattle.ps_generation.specs.Rows.{AreWeightRows}
use Rattle.ps_generation.proofs.weights.weight_rows.Given as goal

abbrev pub invariant-loop-row : goal.invariant-loop-row
invariant-loop-row l = AreWeightRows l.table l.row l.rows
