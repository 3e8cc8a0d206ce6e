use Rattle.std.proofs.Common.{◌≡◌, length}
use Rattle.ps_simplex.specs.Rule.{ratio}
use Rattle.ps_table.specs.Tableau.{number_in}
use Rattle.ps_bland.specs.Rules.{simplex_of}
use Rattle.ps_bland.specs.Rounds.{IsLeastBefore}
use Rattle.ps_bland.proofs.ratios.least_row.Given as goal

abbrev pub invariant-loop-row : goal.invariant-loop-row
invariant-loop-row l = record {
  best : IsLeastBefore l.table (number_in (length l.table.kinds) l.col) l.row l.best.row;
  best_ratio : l.best.ratio ≡ ratio (simplex_of l.table) (number_in (length l.table.kinds) l.col) l.best.row;
}
