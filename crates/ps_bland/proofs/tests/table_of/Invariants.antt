use Rattle.std.proofs.Common.{◌≡◌, ℕ, length}
use Rattle.ps_meaning.specs.Rational.{Rational}
use Rattle.ps_table.specs.Tableau.{IsTableFor}
use Rattle.ps_bland.specs.Columns.{AreColumns}
use Rattle.ps_bland.proofs.tests.table_of.Given as goal

abbrev pub invariant-loop-k : goal.invariant-loop-k
invariant-loop-k g l = record {
  kinds : length l.table.kinds ≡ g.row.N;
  count : l.table.worlds ≡ l.k;
  stands : (A : ℕ → ℕ → Rational) → AreColumns g.row.N l.worlds A → IsTableFor A l.table;
}
