use Rattle.std.proofs.Common.{◌<◌, ℕ, length}
use Rattle.ps_simplex.specs.Rule.{IsRising}
use Rattle.ps_table.specs.Tableau.{number_in}
use Rattle.ps_bland.specs.Rules.{simplex_of}
use Rattle.ps_bland.proofs.ratios.first_rising.Given as goal

abbrev pub invariant-loop-row : goal.invariant-loop-row
invariant-loop-row l = (i : ℕ) → i < l.row → IsRising (simplex_of l.table) (number_in (length l.table.kinds) l.col) i → ⊥
