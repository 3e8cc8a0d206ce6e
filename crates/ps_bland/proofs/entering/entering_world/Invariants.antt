use Rattle.std.proofs.Common.{◌<◌, ◌+◌, ℕ, suc, length}
use Rattle.ps_simplex.specs.Rule.{Improves}
use Rattle.ps_table.specs.Pricing.{cost_at}
use Rattle.ps_bland.specs.Rules.{simplex_of}
use Rattle.ps_bland.specs.Rounds.{ArePricesNarrowTo}
use Rattle.ps_bland.proofs.entering.entering_world.Given as goal

abbrev pub invariant-loop-before : goal.invariant-loop-before
invariant-loop-before l = record {
  none : (j : ℕ) → j < suc (length l.table.kinds + l.before) → Improves (simplex_of l.table) (cost_at l.costs) j → ⊥;
  narrow : ArePricesNarrowTo l.costs l.table l.before;
}
