use Rattle.std.proofs.Common.{◌<◌, ℕ}
use Rattle.ps_generation.specs.Models.{IsBasicIn}
use Rattle.ps_generation.proofs.modelled.row_of.Given as goal

abbrev pub invariant-loop-row : goal.invariant-loop-row
invariant-loop-row l = (i : ℕ) → i < l.row → ¬ IsBasicIn l.table l.number i
