use Rattle.std.proofs.Common.{ℕ}
use Rattle.ps_meaning.specs.Rational.{Rational}
use Rattle.ps_table.specs.Tableau.{IsTableFor}
use Rattle.ps_bland.specs.Columns.{AreColumns}
use Rattle.ps_bland.proofs.tests.goes.Given as goal

abbrev pub invariant-loop-number : goal.invariant-loop-number
invariant-loop-number g l = (A : ℕ → ℕ → Rational) → AreColumns g.row.N l.case.worlds.now A → IsTableFor A l.table
