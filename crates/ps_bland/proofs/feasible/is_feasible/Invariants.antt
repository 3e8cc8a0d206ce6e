use Rattle.std.proofs.Common.{◌≡◌, ◌<◌, ℕ, true}
use Rattle.ps_meaning.specs.Rational.{zero_q}
use Rattle.ps_table.specs.Tableau.{basic_at, entry_at}
use Rattle.ps_bland.specs.Rules.{artificial_at}
use Rattle.ps_bland.proofs.feasible.is_feasible.Given as goal

abbrev pub invariant-loop-row : goal.invariant-loop-row
invariant-loop-row l = (i : ℕ) → i < l.row → artificial_at l.table.kinds (basic_at l.table i) ≡ true → entry_at l.table i 0 ≡ zero_q
