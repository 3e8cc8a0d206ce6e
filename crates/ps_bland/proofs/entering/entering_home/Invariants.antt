use Rattle.std.proofs.Common.{◌<◌, ℕ, suc}
use Rattle.ps_simplex.specs.Rule.{Improves}
use Rattle.ps_table.specs.Pricing.{cost_at}
use Rattle.ps_bland.specs.Rules.{simplex_of}
use Rattle.ps_bland.specs.Rounds.{AreSlacksNarrowTo}
use Rattle.ps_bland.proofs.entering.entering_home.Given as goal

abbrev pub invariant-loop-row : goal.invariant-loop-row
invariant-loop-row l = record {
  none : (j : ℕ) → j < suc l.row → Improves (simplex_of l.table) (cost_at l.costs) j → ⊥;
  narrow : AreSlacksNarrowTo l.costs l.table l.row;
}
