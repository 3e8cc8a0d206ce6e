use Rattle.ps_generation.specs.Rows.{IsPrintedMultiple, multiple_to_row}
use Rattle.ps_generation.proofs.weights.weight_multiple.Given as goal

abbrev pub invariant-loop-row : goal.invariant-loop-row
invariant-loop-row l = IsPrintedMultiple (multiple_to_row l.table l.row) l.multiple
