use Rattle.std.proofs.Common.{◌≡◌, ◌≤◌, unsigned_abs}
use Rattle.ps_meaning.specs.declared.limits.TheConstants.{PRINTED_LIMIT}
use Rattle.ps_generation.specs.Rows.{total_to_row}
use Rattle.ps_generation.proofs.weights.total_of.Given as goal

abbrev pub invariant-loop-row : goal.invariant-loop-row
invariant-loop-row l = record {
  value : l.total ≡ total_to_row l.table l.row;
  small : unsigned_abs l.total ≤ PRINTED_LIMIT;
}
