use Rattle.std.proofs.Common.{take, All}
use Rattle.ps_claims.specs.Certificates.{IsMultiplier}
use Rattle.ps_generation.specs.Duals.{AreSigned, row_numbers}
use Rattle.ps_generation.proofs.table_dual.bound_rows.Given as goal

abbrev pub invariant-loop-i : goal.invariant-loop-i
invariant-loop-i l = record {
  rows : AreSigned (take l.i l.rows) (row_numbers l.numbers) l.multipliers;
  small : All IsMultiplier l.multipliers;
}
